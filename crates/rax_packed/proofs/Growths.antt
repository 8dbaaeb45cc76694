-- A tree with one key more.
use Rattle.std.proofs.Common.{◌≡◌, ◌∙◌, ℕ, zero, suc, ◌+◌, ◌-◌, ◌<◌, ◌≤◌, false, List, [], ◌∷◌, ◌++◌, length, drop, get_or, lit<, map, Option, Some, None, IsSome, unwrap_or, refl, sym, ap}
use Rattle.std.proofs.Common.{subst, arith, length-append}
use Rattle.std.proofs.lemmas.List.{append-nil, take_at, drop_at, get_or_at}
use Rattle.std.specs.List.{AllByRecursion, insert}
use Rattle.std.proofs.lemmas.List.Concat.{flat_map-append}
use Rattle.std.proofs.lemmas.Bool.{cond-true}
use Rattle.blocks.specs.declared.BlockRef.{BlockRef}
use Rattle.blocks.specs.Blocks.{Blocks, ref_eq, times, Owned, with_block}
use Rattle.blocks.proofs.Times.{times-append}
use Rattle.blocks.proofs.Refs.{ref_eq_refl, ref_eq_sym, with_block_same, with_block_other, apart_live}
use Rattle.blocks.proofs.Change.{one, live_once, live_is_in_change, other_than, Counts, counts_same, counts_then, counts_placed, counts_ended, changes_counted, with_block_undone}
use Rattle.rax_packed.specs.Nodes.{Link, Leaf, Inner, IsInner, IsRef, spelled, node_of}
use Rattle.rax_packed.specs.Trees.{Entry, under, node_at, entries, refs, IsTree, entries_at, refs_at, IsTreeAt, Becomes}
use Rattle.rax_packed.specs.Ways.{Lacks, IsInnerBytes, prefix_in, links_in}
use Rattle.rax_packed.specs.Packed.{with_entry}
use Rattle.rax_packed.proofs.Entries.{below_links, with_entry_parts, links_less, links_greater, key_under, all_front, all_back, all-append}
use Rattle.rax_packed.proofs.Frames.{refs_below, SameBelow, same_below, InnerAt, LeafAt, inner_at, inner_tree, inner_node, inner_entries, inner_refs, leaf_tree, leaf_node, leaf_entries, leaf_refs}
use Rattle.rax_packed.proofs.Grafts.{owned_by, times_owned_by, three_refs, three_entries}
use Rattle.rax_packed.proofs.Links.{inner_join}
use Rattle.rax_packed.proofs.Looks.{node_read, rest_is, tree_live, tree_node}
use Rattle.rax_packed.proofs.Spellings.{count_most}

-- Blocks were put, and nothing else has changed.
pub record Puts (b m : Blocks) (news : List BlockRef) : Type 0 where
  pub counts : (old new : List BlockRef) → ((r : BlockRef) → times r new ≡ times r old + times r news) → Counts b m old new
  pub kept : (r : BlockRef) → IsSome (b r) → m r ≡ b r

-- where nothing has changed, no block was put
pub puts_none : (b : Blocks) → Puts b b []
puts_none b = record { counts = λ old new same. counts_same b old new (λ r. omega (arith, same r)); kept = λ r is. refl }

-- where one more block is placed after others were put, all of them were put
pub puts_more : (b m after : Blocks) (news : List BlockRef) (at : BlockRef) (bytes : List ℕ) → Puts b m news → m at ≡ None → after ≡ with_block m at (Some bytes) → Puts b after (at ∷ news)
puts_more b m after news at bytes puts fresh is =
    record {
      counts = λ old new same. counts_then b m after old (news ++ old) new (puts.counts old (news ++ old) (λ r. omega (arith, times-append r news old)))
          (counts_placed m after at bytes (news ++ old) new fresh is (λ r. omega (arith, same r, times-append r news old)));
      kept = λ r live. (let here = puts.kept r live in
          ap (λ n. n r) is ∙ with_block_other m at r (Some bytes) (apart_live m r at (subst (λ o. IsSome o) (sym here) live) fresh) ∙ here);
    }

-- Blocks were put, then one was given back, and nothing else has changed.
pub record Swaps (b m : Blocks) (at : BlockRef) (news : List BlockRef) : Type 0 where
  pub counts : (old new : List BlockRef) → ((r : BlockRef) → times r new + one r at ≡ times r old + times r news) → Counts b m old new
  pub kept : (r : BlockRef) → IsSome (b r) → ref_eq r at ≡ false → m r ≡ b r

-- where blocks were put, and then one that was live before is given back, they stand in its place
pub swaps : (b m after : Blocks) (at : BlockRef) (news : List BlockRef) → Puts b m news → IsSome (b at) → after ≡ with_block m at None → Swaps b after at news
swaps b m after at news puts was is =
    record {
      counts = λ old new same. counts_then b m after old (news ++ old) new (puts.counts old (news ++ old) (λ r. omega (arith, times-append r news old)))
          (counts_ended m after at (news ++ old) new (subst (λ o. IsSome o) (sym (puts.kept at was)) was) is (λ r. omega (arith, same r, times-append r news old)));
      kept = λ r live other. ap (λ n. n r) is ∙ with_block_other m at r None other ∙ puts.kept r live;
    }

-- a block holds its bytes still where another one is put
pub put_stays : (m after : Blocks) (at r : BlockRef) (bytes : List ℕ) (seen : List ℕ) → m r ≡ Some seen → m at ≡ None → after ≡ with_block m at (Some bytes) → after r ≡ Some seen
put_stays m after at r bytes seen here fresh is =
    ap (λ n. n r) is ∙ with_block_other m at r (Some bytes) (apart_live m r at (subst (λ o. IsSome o) (sym here) refl) fresh) ∙ here

-- a put block holds the bytes that were put
pub put_here : (m after : Blocks) (at : BlockRef) (bytes : List ℕ) → after ≡ with_block m at (Some bytes) → after at ≡ Some bytes
put_here m after at bytes is = ap (λ n. n at) is ∙ with_block_same m at (Some bytes)

-- a block that was put since holds its bytes still where one that was live before is given back
pub ended_stays : (b m after : Blocks) (at r : BlockRef) (seen : List ℕ) → m r ≡ Some seen → IsSome (b at) → b r ≡ None → after ≡ with_block m at None → after r ≡ Some seen
ended_stays b m after at r seen here was fresh is =
    ap (λ n. n r) is ∙ with_block_other m at r None (ref_eq_sym r at ∙ apart_live b at r was fresh) ∙ here

-- a put block is live
pub put_live : (m after : Blocks) (at : BlockRef) (bytes : List ℕ) → after ≡ with_block m at (Some bytes) → IsSome (after at)
put_live m after at bytes is = subst (λ o. IsSome o) (sym (put_here m after at bytes is)) refl

-- what was live is live still where blocks were put
pub live_still : (b m : Blocks) (at : BlockRef) (news : List BlockRef) → Puts b m news → IsSome (b at) → IsSome (m at)
live_still b m at news puts was = subst (λ o. IsSome o) (sym (puts.kept at was)) was

-- of two put blocks the first one is live still where the second one is given back
pub first_live : (b m after later : Blocks) (at other : BlockRef) (first second : List ℕ) → m ≡ with_block b at (Some first) → m other ≡ None → after ≡ with_block m other (Some second)
    → later ≡ with_block after other None → IsSome (later at)
first_live b m after later at other first second put fresh next ended =
    let live = put_live b m at first put in
    let apart = apart_live m at other live fresh in
    subst (λ o. IsSome o)
    (sym (ap (λ n. n at) ended ∙ with_block_other after other at None apart ∙ (ap (λ n. n at) next ∙ with_block_other m other at (Some second) apart))) live

-- a put block that is given back leaves the blocks before it
pub undone_one : (b m after later : Blocks) (at : BlockRef) (bytes : List ℕ) → b at ≡ None → m ≡ with_block b at (Some bytes) → after ≡ m → later ≡ with_block after at None → later ≡ b
undone_one b m after later at bytes fresh put same ended = ended ∙ ap (λ n. with_block n at None) (same ∙ put) ∙ with_block_undone b at (Some bytes) fresh

-- a reference that isn't live after blocks were put wasn't live before
pub fresh_before : (b m : Blocks) (r : BlockRef) (news : List BlockRef) → Puts b m news → m r ≡ None → b r ≡ None
fresh_before b m r news puts fresh = by_case (b r) refl
  where
    by_case : (o : Option (List ℕ)) → b r ≡ o → b r ≡ None
    by_case None is = is
    by_case (Some xs) is = absurd (let bad : ◌≡◌ {A = Option (List ℕ)} (Some xs) None = sym (puts.kept r (subst (λ o. IsSome o) (sym is) refl) ∙ is) ∙ fresh in cc)

-- the entries that a missing key makes of a node with links
pub lacking_entries : (n : ℕ) (b : Blocks) (key prefix below : List ℕ) (before after : List Link) (edge : ℕ) (value : BlockRef) → key ≡ prefix ++ edge ∷ below
    → AllByRecursion (λ l. l.edge < edge) before → AllByRecursion (λ l. edge < l.edge) after
    → with_entry (below_links prefix (entries n b) (before ++ after)) key value ≡ below_links prefix (entries n b) before
    ++ ((under (prefix ++ edge ∷ []) (record { key = below; value = value })) ∷ below_links prefix (entries n b) after)
unfolding with_entry
lacking_entries n b key prefix below before after edge value is less more =
    let f : Link → List Entry = λ l. map (under (prefix ++ l.edge ∷ [])) (entries n b l.to) in
    let full = prefix ++ edge ∷ below in
    ap (λ es. with_entry es key value) (flat_map-append f before after)
    ∙ ap (λ k. with_entry (below_links prefix (entries n b) before ++ ([] ++ below_links prefix (entries n b) after)) k value) is
    ∙ with_entry_parts full (below_links prefix (entries n b) before) [] (below_links prefix (entries n b) after) (links_less prefix below edge (entries n b) before less)
    (links_greater prefix below edge (entries n b) after more) value
    ∙ ap (λ k. below_links prefix (entries n b) before ++ ((record { key = k; value = value }) ∷ below_links prefix (entries n b) after)) (key_under prefix below edge)

-- A new leaf hangs at a node, which stands in another block then.
module _ (b later : Blocks) (at leaf new : BlockRef) (key : List ℕ) (place from : ℕ) (value : BlockRef) (t : IsTreeAt (length key) b at) (own : Owned (refs_at (length key) b at) b)
    (lacks : Lacks (node_at b at) key place from)
    (changed : Swaps b later at (new ∷ leaf ∷ [])) (hangs : later leaf ≡ Some (spelled (Leaf lacks.below value)))
    (stands : later new ≡ Some (spelled (Inner lacks.prefix (lacks.before ++ (record { edge = lacks.edge; to = leaf }) ∷ lacks.after)))) (byte : lacks.edge < 256) (named : IsRef leaf)
    (valued : IsRef value) where
  -- the length of the key
  n : ℕ
  n = length key

  -- the links that the node has before the new leaf hangs at it
  links : List Link
  links = lacks.before ++ lacks.after

  -- the link that names the new leaf by the key's byte
  link : Link
  link = record { edge = lacks.edge; to = leaf }

  -- the block of the old reference holds the inner node, over the trees that its links name
  node : InnerAt (length key) (length key) b at lacks.prefix (lacks.before ++ lacks.after)
  node = inner_at (length key) (length key) b at lacks.prefix (lacks.before ++ lacks.after) t lacks.node_is

  -- the old reference counts once as itself
  here : one at at ≡ 1
  here = cond-true _ _ _ (ref_eq_refl at)

  -- the tree's references are the node's own, and those below the links before and after the key's byte
  refs_are : refs_at (length key) b at ≡ at ∷ (refs_below (length key) b lacks.before ++ refs_below (length key) b lacks.after)
  refs_are = inner_refs (length key) b at lacks.prefix (lacks.before ++ lacks.after) lacks.node_is ∙ ap (λ xs. at ∷ xs) (flat_map-append (λ l. refs (length key) b l.to) lacks.before lacks.after)

  -- a reference is counted in the tree at the node, below the links before the key's byte, and below those after it
  in_refs : (r : BlockRef) → times r (refs_at (length key) b at) ≡ one r at + (times r (refs_below (length key) b lacks.before) + times r (refs_below (length key) b lacks.after))
  in_refs r = ap (times r) refs_are ∙ ap (λ m. one r at + m) (times-append r (refs_below (length key) b lacks.before) (refs_below (length key) b lacks.after))

  -- the blocks of the tree but the node's own are as they were
  kept : (r : BlockRef) → 0 < times r (refs_at (length key) b at) → one r at ≡ 0 → later r ≡ b r
  kept r is out = changed.kept r (live_is_in_change b r (omega (arith, own r, is))) (other_than r at out)

  -- the trees below the links before the key's byte are as they were
  same_before : SameBelow (length key) b later lacks.before
  same_before = same_below (length key) b later lacks.before (λ r is. kept r (omega (arith, in_refs r, is)) (omega (arith, own r, in_refs r, live_once b r, is)))

  -- the trees below the links after the key's byte are as they were
  same_after : SameBelow (length key) b later lacks.after
  same_after = same_below (length key) b later lacks.after (λ r is. kept r (omega (arith, in_refs r, is)) (omega (arith, own r, in_refs r, live_once b r, is)))

  -- how many bytes of each key are left below the node's links
  left : ℕ
  left = length key - suc (length lacks.prefix)

  -- the key's bytes behind the node's prefix and one edge are as many as are left below the node's links
  left_is : length lacks.below ≡ length key - suc (length lacks.prefix)
  left_is = omega (arith, ap length lacks.key_is, length-append lacks.prefix (lacks.edge ∷ lacks.below))

  -- the new leaf's block holds the rest of the key and the value, and fits below the node
  leaf_low : LeafAt (length key - suc (length lacks.prefix)) later leaf lacks.below value
  leaf_low = record { bytes = spelled (Leaf lacks.below value); block = hangs; holds = refl; fits = (left_is, valued) }

  -- a leaf has as many levels as are wanted
  leaf_many : (m : ℕ) → 0 < m → IsTree m (length key - suc (length lacks.prefix)) later leaf × (entries m later leaf ≡ (record { key = lacks.below; value = value }) ∷ [])
      × (refs m later leaf ≡ leaf ∷ [])
  leaf_many zero h = absurd (omega arith)
  leaf_many (suc m) h =
      let is = leaf_node m (length key - suc (length lacks.prefix)) later leaf lacks.below value leaf_low in
      (leaf_tree m (length key - suc (length lacks.prefix)) later leaf lacks.below value leaf_low, leaf_entries m later leaf lacks.below value is, leaf_refs m later leaf lacks.below value is)

  -- the key has at least one byte
  longer : 0 < length key
  longer = omega (arith, ap length lacks.key_is, length-append lacks.prefix (lacks.edge ∷ lacks.below))

  -- the new leaf is a tree of one entry and one reference with as many levels as the key has bytes
  hung : IsTree (length key) (length key - suc (length lacks.prefix)) later leaf × (entries (length key) later leaf ≡ (record { key = lacks.below; value = value }) ∷ [])
      × (refs (length key) later leaf ≡ leaf ∷ [])
  hung = leaf_many (length key) longer

  -- the block of the new reference holds the node with the new leaf's link, over the trees of all its links
  now : InnerAt (length key) (length key) later new lacks.prefix (lacks.before ++ link ∷ lacks.after)
  unfolding link
  now = record {
    bytes = spelled (Inner lacks.prefix (lacks.before ++ link ∷ lacks.after));
    block = stands;
    holds = (0, sym (append-nil (spelled (Inner lacks.prefix (lacks.before ++ link ∷ lacks.after)))));
    inner = inner_join (length key) lacks.prefix lacks.before lacks.after link node.inner byte named lacks.less lacks.more;
    below =
        (let P : Link → Type 0 = λ l. IsTree (length key) (length key - suc (length lacks.prefix)) b l.to in
        let Q : Link → Type 0 = λ l. IsTree (length key) (length key - suc (length lacks.prefix)) later l.to in
        all-append Q lacks.before (link ∷ lacks.after) (same_before.trees (length key - suc (length lacks.prefix)) (all_front P lacks.before lacks.after node.below))
        (hung.0, same_after.trees (length key - suc (length lacks.prefix)) (all_back P lacks.before lacks.after node.below)));
  }

  -- the node at the new reference is the one with the new leaf's link
  now_node : node_at later new ≡ Inner lacks.prefix (lacks.before ++ link ∷ lacks.after)
  now_node = inner_node (length key) (length key) later new lacks.prefix (lacks.before ++ link ∷ lacks.after) now

  -- the tree's references are now the new one, and the leaf's between those below the other links as they were
  now_refs : refs_at (length key) later new ≡ owned_by new (refs_below (length key) b lacks.before) (leaf ∷ []) (refs_below (length key) b lacks.after)
  unfolding owned_by link
  now_refs =
      inner_refs (length key) later new lacks.prefix (lacks.before ++ link ∷ lacks.after) now_node ∙ three_refs (length key) later new lacks.before (link ∷ []) lacks.after
      ∙ ap (λ xs. new ∷ (xs ++ (refs_below (length key) later (link ∷ []) ++ refs_below (length key) later lacks.after))) same_before.refs_are
      ∙ ap (λ xs. new ∷ (refs_below (length key) b lacks.before ++ (xs ++ refs_below (length key) later lacks.after))) (append-nil (refs (length key) later leaf) ∙ hung.2)
      ∙ ap (λ xs. new ∷ (refs_below (length key) b lacks.before ++ ((leaf ∷ []) ++ xs))) same_after.refs_are

  -- the tree's entries are now the new leaf's one between those below the other links as they were
  now_entries : entries_at (length key) later new ≡ below_links lacks.prefix (entries (length key) b) lacks.before
      ++ ((under (lacks.prefix ++ lacks.edge ∷ []) (record { key = lacks.below; value = value })) ∷ below_links lacks.prefix (entries (length key) b) lacks.after)
  unfolding link
  now_entries =
      inner_entries (length key) later new lacks.prefix (lacks.before ++ link ∷ lacks.after) now_node ∙ three_entries lacks.prefix (length key) later lacks.before (link ∷ []) lacks.after
      ∙ ap (λ xs. xs ++ (below_links lacks.prefix (entries (length key) later) (link ∷ []) ++ below_links lacks.prefix (entries (length key) later) lacks.after)) (same_before.entries_are lacks.prefix)
      ∙ ap (λ xs. below_links lacks.prefix (entries (length key) b) lacks.before ++ (xs ++ below_links lacks.prefix (entries (length key) later) lacks.after))
      (append-nil (map (under (lacks.prefix ++ lacks.edge ∷ [])) (entries (length key) later leaf)) ∙ ap (map (under (lacks.prefix ++ lacks.edge ∷ []))) hung.1)
      ∙ ap (λ xs. below_links lacks.prefix (entries (length key) b) lacks.before ++ ((under (lacks.prefix ++ lacks.edge ∷ []) (record { key = lacks.below; value = value })) ∷ xs))
      (same_after.entries_are lacks.prefix)

  -- the tree has become one at the new reference with the value at the key, and no other block has changed
  pub attached : Becomes (length key) b later at new (with_entry (entries_at (length key) b at) key value)
  attached = record {
    tree = inner_tree (length key) (length key) later new lacks.prefix (lacks.before ++ link ∷ lacks.after) now;
    entries_are = now_entries ∙ sym
        (ap (λ es. with_entry es key value) (inner_entries (length key) b at lacks.prefix (lacks.before ++ lacks.after) lacks.node_is)
        ∙ lacking_entries (length key) b key lacks.prefix lacks.below lacks.before lacks.after lacks.edge value lacks.key_is lacks.less lacks.more);
    changes = changes_counted b later (refs_at (length key) b at) (refs_at (length key) later new) own
        (changed.counts (refs_at (length key) b at) (refs_at (length key) later new)
        (λ r.
        (let now_in : times r (refs_at (length key) later new) ≡ one r new +
        (times r (refs_below (length key) b lacks.before) + (times r (leaf ∷ []) + times r (refs_below (length key) b lacks.after))) = ap (times r) now_refs
        ∙ times_owned_by r new (refs_below (length key) b lacks.before) (leaf ∷ []) (refs_below (length key) b lacks.after) in
        omega (arith, now_in, in_refs r))));
  }

-- the link that comes to a place
insert_at : (before after : List Link) (link : Link) (place : ℕ) → length before ≡ place → insert (before ++ after) place link ≡ before ++ link ∷ after
insert_at before after link place many = ap (λ xs. xs ++ link ∷ drop place (before ++ after)) (take_at before after place many) ∙ ap (λ xs. before ++ link ∷ xs) (drop_at before after place many)

-- the key's byte behind the prefix
edge_of : (prefix below key : List ℕ) (edge from : ℕ) → key ≡ prefix ++ edge ∷ below → from ≡ suc (length prefix) → get_or key (from - 1) 0 ≡ edge
edge_of prefix below key edge from is begins = ap (λ k. get_or k (from - 1) 0) is ∙ get_or_at prefix edge below 0 (from - 1) (omega arith)

-- what code attaches
pub attach_done : (b b1 b2 later : Blocks) (at leaf new : BlockRef) (key : List ℕ) (place from : ℕ) (value : BlockRef) → IsTreeAt (length key) b at → Owned (refs_at (length key) b at) b
    → Lacks (node_at b at) key place from
    → b leaf ≡ None → (first : List ℕ) → b1 ≡ with_block b leaf (Some first) → first ≡ spelled (Leaf (drop from key) value)
    → (seen : List ℕ) → b1 at ≡ Some seen → (second : List ℕ) → second ≡ spelled
    (Inner (prefix_in (node_of seen)) (insert (links_in (node_of seen)) place (record { edge = get_or key (from - 1) 0; to = leaf })))
    → b1 new ≡ None → b2 ≡ with_block b1 new (Some second) → later ≡ with_block b2 at None → ((i : ℕ) → get_or key i 0 < 256) → IsRef leaf → IsRef value
    → Becomes (length key) b later at new (with_entry (entries_at (length key) b at) key value)
attach_done b b1 b2 later at leaf new key place from value t own lacks fresh1 first put1 first_is seen read second second_is fresh2 put2 ended small named valued =
    let was : IsSome (b at) = tree_live (suc (length key)) (length key) b at t in
    let one_put : Puts b b1 (leaf ∷ []) = puts_more b b b1 [] leaf first (puts_none b) fresh1 put1 in
    let two_put : Puts b b2 (new ∷ leaf ∷ []) = puts_more b b1 b2 (leaf ∷ []) new second one_put fresh2 put2 in
    let changed : Swaps b later at (new ∷ leaf ∷ []) = swaps b b2 later at (new ∷ leaf ∷ []) two_put was ended in
    let below : drop from key ≡ lacks.below = rest_is lacks.prefix lacks.below key lacks.edge from lacks.key_is lacks.begins in
    let node : node_of seen ≡ Inner lacks.prefix (lacks.before ++ lacks.after) = ap (λ o. node_of (unwrap_or o [])) (sym read ∙ one_put.kept at was) ∙ lacks.node_is in
    let edge : get_or key (from - 1) 0 ≡ lacks.edge = edge_of lacks.prefix lacks.below key lacks.edge from lacks.key_is lacks.begins in
    let link : Link = record { edge = lacks.edge; to = leaf } in
    let wide : second ≡ spelled (Inner lacks.prefix (lacks.before ++ link ∷ lacks.after)) =
    second_is ∙ ap (λ m. spelled (Inner (prefix_in m) (insert (links_in m) place (record { edge = get_or key (from - 1) 0; to = leaf })))) node
    ∙ ap (λ e. spelled (Inner lacks.prefix (insert (lacks.before ++ lacks.after) place (record { edge = e; to = leaf })))) edge
    ∙ ap (λ ls. spelled (Inner lacks.prefix ls)) (insert_at lacks.before lacks.after link place lacks.many) in
    let hangs : later leaf ≡ Some (spelled (Leaf lacks.below value)) =
    ended_stays b b2 later at leaf first (put_stays b1 b2 new leaf second first (put_here b b1 leaf first put1) fresh2 put2) was fresh1 ended
    ∙ ap Some (first_is ∙ ap (λ k. spelled (Leaf k value)) below) in
    let stands : later new ≡ Some (spelled (Inner lacks.prefix (lacks.before ++ link ∷ lacks.after))) =
    ended_stays b b2 later at new second (put_here b1 b2 new second put2) was (fresh_before b b1 new (leaf ∷ []) one_put fresh2) ended ∙ ap Some wide in
    let byte : lacks.edge < 256 = subst (λ e. e < 256) edge (small (from - 1)) in
    attached b later at leaf new key place from value t own lacks changed hangs stands byte named valued

-- what code asks of the bytes that it widens
pub attach_ready : (b b1 : Blocks) (at leaf : BlockRef) (key : List ℕ) (place from : ℕ) → IsTreeAt (length key) b at → length key ≤ 16 → Lacks (node_at b at) key place from
    → Puts b b1 (leaf ∷ []) → (seen : List ℕ) → b1 at ≡ Some seen → ((i : ℕ) → get_or key i 0 < 256)
    → IsInnerBytes seen × (place ≤ length (links_in (node_of seen))) × (length (links_in (node_of seen)) < 256)
attach_ready b b1 at leaf key place from t few lacks puts seen read small =
    let was : IsSome (b at) = tree_live (suc (length key)) (length key) b at t in
    let here : b at ≡ Some seen = sym (puts.kept at was) ∙ read in
    let node : node_of seen ≡ Inner lacks.prefix (lacks.before ++ lacks.after) = sym (node_read b at seen here) ∙ lacks.node_is in
    let links : links_in (node_of seen) ≡ lacks.before ++ lacks.after = ap links_in node in
    let inner = inner_at (length key) (length key) b at lacks.prefix (lacks.before ++ lacks.after) t lacks.node_is in
    let edge : get_or key (from - 1) 0 ≡ lacks.edge = edge_of lacks.prefix lacks.below key lacks.edge from lacks.key_is lacks.begins in
    let byte : lacks.edge < 256 = subst (λ e. e < 256) edge (small (from - 1)) in
    let some_ref : BlockRef = record { slab = 0; slot = 0 } in
    let more : IsInner (length key) lacks.prefix (lacks.before ++ (record { edge = lacks.edge; to = some_ref }) ∷ lacks.after) =
    inner_join (length key) lacks.prefix lacks.before lacks.after (record { edge = lacks.edge; to = some_ref }) inner.inner byte (record { slab = lit< tt; slot = lit< tt }) lacks.less
    lacks.more in
    let most = count_most (lacks.before ++ (record { edge = lacks.edge; to = some_ref }) ∷ lacks.after) more.rising more.edges in (
      record { rest = length key; few = few; node = tree_node (suc (length key)) (length key) b at seen t here; prefix = lacks.prefix; links = lacks.before ++ lacks.after; is = node },
      omega (arith, ap length links, length-append lacks.before lacks.after, lacks.many),
      omega (arith, ap length links, length-append lacks.before lacks.after, length-append lacks.before ((record { edge = lacks.edge; to = some_ref }) ∷ lacks.after)),
    )
