-- A tree with a new inner node before one whose prefix a key leaves.
use Rattle.std.proofs.Common.{◌≡◌, ◌∙◌, ℕ, zero, suc, ◌+◌, ◌-◌, ◌<◌, ◌≤◌, List, [], ◌∷◌, ◌++◌, length, drop, take, get_or, map, Some, None, IsSome, unwrap_or, refl, sym, ap, subst, inl}
use Rattle.std.proofs.Common.{inr, arith, length-append, append_assoc}
use Rattle.std.proofs.lemmas.List.{append-nil, take_at, drop_at, get_or_at, get_or-take, get_or-drop, map-append}
use Rattle.std.specs.List.{AllByRecursion}
use Rattle.std.proofs.lemmas.Bool.{cond-true, cond-false, lt-ltb, le-ltb}
use Rattle.std.specs.declared.cmp.Ordering.TheVariants.{Less, Greater}
use Rattle.blocks.specs.declared.BlockRef.{BlockRef}
use Rattle.blocks.specs.Blocks.{Blocks, times, IsIn, Changes, Owned, with_block}
use Rattle.blocks.proofs.Times.{times-append}
use Rattle.std.specs.Prelude.{slice_index}
use Rattle.blocks.proofs.Change.{one, live_once, live_is_in_change, other_than, changes_counted, with_block_undone}
use Rattle.rax_packed.proofs.Choices.{prefix_told, prefix_len, parts_within}
use Rattle.rax_packed.specs.Nodes.{Link, Node, Leaf, Inner, IsInner, IsRef, spelled, node_of, prefix_from, IsNode}
use Rattle.rax_packed.specs.Trees.{Entry, under, node_at, entries, refs_in, refs, IsTree, entries_at, refs_at, IsTreeAt, Becomes}
use Rattle.rax_packed.specs.Ways.{PartsAt, fork_links, prefix_in, shortened_by}
use Rattle.rax_packed.specs.Packed.{with_entry}
use Rattle.rax_packed.proofs.Entries.{All, below_links, with_entry_parts, key_under}
use Rattle.rax_packed.proofs.Frames.{SameLevels, same_levels, refs_below, SameBelow, same_below, LevelsBelow, levels_below, InnerAt, LeafAt, inner_at, inner_tree, inner_node}
use Rattle.rax_packed.proofs.Frames.{inner_entries, inner_refs, leaf_at, leaf_tree, leaf_node, leaf_entries, leaf_refs}
use Rattle.rax_packed.proofs.Growths.{Puts, puts_none, puts_more, Swaps, swaps, put_stays, put_here, ended_stays, fresh_before}
use Rattle.rax_packed.proofs.Looks.{node_read, parts_side, tree_live, tree_node}

-- keys behind more bytes, in two steps or one
map_under : (begin more : List ℕ) (edge : ℕ) (es : List Entry) → map (under (begin ++ edge ∷ more)) es ≡ map (under (begin ++ edge ∷ [])) (map (under more) es)
map_under begin more edge [] = refl
map_under begin more edge (e ∷ es) =
    let key : (begin ++ edge ∷ more) ++ e.key ≡ (begin ++ edge ∷ []) ++ (more ++ e.key) = append_assoc begin (edge ∷ more) e.key ∙ sym (append_assoc begin (edge ∷ []) (more ++ e.key)) in
    let rest = map_under begin more edge es in
    λ i. (record { key = key i; value = e.value }) ∷ rest i

-- entries below links behind a longer prefix are those behind its end, with its beginning put before them
below_under : (begin more : List ℕ) (edge : ℕ) (es : BlockRef → List Entry) (links : List Link)
    → below_links (begin ++ edge ∷ more) es links ≡ map (under (begin ++ edge ∷ [])) (below_links more es links)
below_under begin more edge es [] = refl
below_under begin more edge es (l ∷ links) =
    let f = begin ++ edge ∷ [] in
    ap (λ p. map (under p) (es l.to) ++ below_links (begin ++ edge ∷ more) es links) (append_assoc begin (edge ∷ more) (l.edge ∷ []))
    ∙ ap (λ xs. xs ++ below_links (begin ++ edge ∷ more) es links) (map_under begin (more ++ l.edge ∷ []) edge (es l.to))
    ∙ ap (λ xs. map (under f) (map (under (more ++ l.edge ∷ [])) (es l.to)) ++ xs) (below_under begin more edge es links)
    ∙ sym (map-append (under f) (map (under (more ++ l.edge ∷ [])) (es l.to)) (below_links more es links))

-- The node stands in another block with a shorter prefix, and its trees are as they were.
pub record Shortened (n left : ℕ) (b later : Blocks) (at moved : BlockRef) (begin : List ℕ) (own : ℕ) : Type 0 where
  pub tree : IsTreeAt left later moved
  pub entries_are : entries (suc n) b at ≡ map (under (begin ++ own ∷ [])) (entries_at left later moved)
  pub below : List BlockRef
  pub old_refs : refs (suc n) b at ≡ at ∷ below
  pub new_refs : refs_at left later moved ≡ moved ∷ below

-- without its beginning and the byte after that, a list is its rest
cut_prefix : (begin rest : List ℕ) (own : ℕ) → drop (suc (length begin)) (begin ++ own ∷ rest) ≡ rest
cut_prefix begin rest own = ap (drop (suc (length begin))) (sym (append_assoc begin (own ∷ []) rest))
    ∙ drop_at (begin ++ own ∷ []) rest (suc (length begin)) (length-append begin (own ∷ []) ∙ omega arith)

-- a leaf is shortened where another block holds it with the end of its prefix alone
short_leaf : (n : ℕ) (b later : Blocks) (at moved value : BlockRef) (begin rest : List ℕ) (own : ℕ) → LeafAt n b at (begin ++ own ∷ rest) value
    → node_at b at ≡ Leaf (begin ++ own ∷ rest) value → later moved ≡ Some (spelled (Leaf rest value)) → Shortened n (n - suc (length begin)) b later at moved begin own
short_leaf n b later at moved value begin rest own leaf is stands =
    let whole = leaf.fits.0 in
    let left_is : length rest ≡ n - suc (length begin) = omega (arith, length-append begin (own ∷ rest)) in
    let now : LeafAt (n - suc (length begin)) later moved rest value = record { bytes = spelled (Leaf rest value); block = stands; holds = refl; fits = (left_is, leaf.fits.1) } in
    let now_is = leaf_node (n - suc (length begin)) (n - suc (length begin)) later moved rest value now in
    let key : begin ++ own ∷ rest ≡ (begin ++ own ∷ []) ++ rest = key_under begin rest own in
    record {
      tree = leaf_tree (n - suc (length begin)) (n - suc (length begin)) later moved rest value now;
      entries_are = leaf_entries n b at (begin ++ own ∷ rest) value is ∙ ap (λ k. (record { key = k; value = value }) ∷ []) key
          ∙ sym (ap (map (under (begin ++ own ∷ []))) (leaf_entries (n - suc (length begin)) later moved rest value now_is));
      below = [];
      old_refs = leaf_refs n b at (begin ++ own ∷ rest) value is;
      new_refs = leaf_refs (n - suc (length begin)) later moved rest value now_is;
    }

-- an inner node is shortened where another block holds it with the end of its prefix, over the same trees
short_inner : (n : ℕ) (b later : Blocks) (at moved : BlockRef) (links : List Link) (begin rest : List ℕ) (own : ℕ) → InnerAt n n b at (begin ++ own ∷ rest) links
    → node_at b at ≡ Inner (begin ++ own ∷ rest) links → later moved ≡ Some (spelled (Inner rest links)) → SameBelow n b later links
    → Shortened n (n - suc (length begin)) b later at moved begin own
short_inner n b later at moved links begin rest own inner is stands same =
    let left = n - suc (length begin) in
    let child = n - suc (length (begin ++ own ∷ rest)) in
    let long : length (begin ++ own ∷ rest) ≡ length begin + suc (length rest) = length-append begin (own ∷ rest) in
    let short = inner.inner.short in
    let child_is : child ≡ left - suc (length rest) = omega (arith, long) in
    let lower : LevelsBelow n left child later links = levels_below n left child later (omega (arith, long)) links (same.trees child inner.below) in
    let fits : IsInner left rest links = record { short = omega (arith, long); some = inner.inner.some; rising = inner.inner.rising; edges = inner.inner.edges; refs = inner.inner.refs } in
    let now : InnerAt left left later moved rest links = record {
      bytes = spelled (Inner rest links);
      block = stands;
      holds = (0, sym (append-nil (spelled (Inner rest links))));
      inner = fits;
      below =
          subst (λ m. AllByRecursion (λ l. IsTree left m later l.to) links) child_is lower.trees;
    } in
    let now_is = inner_node left left later moved rest links now in
    record {
      tree = inner_tree left left later moved rest links now;
      entries_are = inner_entries n b at (begin ++ own ∷ rest) links is ∙ below_under begin rest own (entries n b) links
          ∙ ap (map (under (begin ++ own ∷ []))) (sym (inner_entries left later moved rest links now_is ∙ lower.entries_are rest ∙ same.entries_are rest));
      below = refs_below n b links;
      old_refs = inner_refs n b at (begin ++ own ∷ rest) links is;
      new_refs = inner_refs left later moved rest links now_is ∙ ap (λ xs. moved ∷ xs) (lower.refs_are ∙ same.refs_are);
    }

-- the node that code shortens
pub shortened : (n : ℕ) (b later : Blocks) (at moved : BlockRef) (node : Node) (begin rest : List ℕ) (own : ℕ) → IsTreeAt n b at → node_at b at ≡ node → prefix_in node ≡ begin ++ own
    ∷ rest → later moved ≡ Some (spelled (shortened_by (suc (length begin)) node)) → ((r : BlockRef) → IsIn r (refs_in (refs n b) node) → later r ≡ b r)
    → Shortened n (n - suc (length begin)) b later at moved begin own
shortened n b later at moved (Leaf prefix value) begin rest own t is prefix_is stands kept =
    let whole : node_at b at ≡ Leaf (begin ++ own ∷ rest) value = is ∙ ap (λ p. Leaf p value) prefix_is in
    short_leaf n b later at moved value begin rest own (leaf_at n n b at (begin ++ own ∷ rest) value t whole) whole
    (stands ∙ ap (λ p. Some (spelled (Leaf p value))) (ap (drop (suc (length begin))) prefix_is ∙ cut_prefix begin rest own))
shortened n b later at moved (Inner prefix links) begin rest own t is prefix_is stands kept =
    let whole : node_at b at ≡ Inner (begin ++ own ∷ rest) links = is ∙ ap (λ p. Inner p links) prefix_is in
    short_inner n b later at moved links begin rest own (inner_at n n b at (begin ++ own ∷ rest) links t whole) whole
    (stands ∙ ap (λ p. Some (spelled (Inner p links))) (ap (drop (suc (length begin))) prefix_is ∙ cut_prefix begin rest own)) (same_below n b later links kept)

-- an inner node of two links
pub record Forked (n : ℕ) (later : Blocks) (new : BlockRef) (begin : List ℕ) (low_edge : ℕ) (low : BlockRef) (high_edge : ℕ) (high : BlockRef) : Type 0 where
  pub tree : IsTreeAt n later new
  pub entries_are : entries_at n later new ≡ map (under (begin ++ low_edge ∷ [])) (entries n later low) ++ map (under (begin ++ high_edge ∷ [])) (entries n later high)
  pub refs_are : refs_at n later new ≡ new ∷ (refs n later low ++ refs n later high)

-- a block of an inner node with two links to trees, the lesser edge first, is a tree over both
fork_at : (n : ℕ) (later : Blocks) (new : BlockRef) (begin : List ℕ) (low_edge : ℕ) (low : BlockRef) (high_edge : ℕ) (high : BlockRef) → length begin < n → low_edge < high_edge
    → high_edge < 256 → IsRef low → IsRef high
    → IsTree n (n - suc (length begin)) later low → IsTree n (n - suc (length begin)) later high
    → later new ≡ Some (spelled (Inner begin ((record { edge = low_edge; to = low }) ∷ (record { edge = high_edge; to = high }) ∷ []))) → Forked n later new begin low_edge low high_edge high
fork_at n later new begin low_edge low high_edge high short less byte low_ref high_ref low_tree high_tree stands =
    let links : List Link = (record { edge = low_edge; to = low }) ∷ (record { edge = high_edge; to = high }) ∷ [] in
    let now : InnerAt n n later new begin links = record {
      bytes = spelled (Inner begin links);
      block = stands;
      holds = (0, sym (append-nil (spelled (Inner begin links))));
      inner = record { short = short; some = omega arith; rising = ((less, tt), (tt, tt)); edges = (omega arith, (byte, tt)); refs = (low_ref, (high_ref, tt)) };
      below = (low_tree, (high_tree, tt));
    } in
    let is = inner_node n n later new begin links now in
    record {
      tree = inner_tree n n later new begin links now;
      entries_are = inner_entries n later new begin links is ∙ ap (λ xs. map (under (begin ++ low_edge ∷ [])) (entries n later low) ++ xs)
          (append-nil (map (under (begin ++ high_edge ∷ [])) (entries n later high)));
      refs_are = inner_refs n later new begin links is ∙ ap (λ xs. new ∷ (refs n later low ++ xs)) (append-nil (refs n later high));
    }

-- an entry put among none is the only one
pub one_entry : (key : List ℕ) (value : BlockRef) → with_entry [] key value ≡ (record { key = key; value = value }) ∷ []
unfolding with_entry
one_entry key value = refl

-- an entry with a key that is after all others stands last
last_entry : (es : List Entry) (key : List ℕ) (value : BlockRef) → All Less key es → with_entry es key value ≡ es ++ (record { key = key; value = value }) ∷ []
last_entry es key value less =
    ap (λ xs. with_entry xs key value) (sym (append-nil es)) ∙ with_entry_parts key es [] [] less tt value ∙ ap (λ xs. es ++ xs) (append-nil (with_entry [] key value) ∙ one_entry key value)

-- an entry with a key that is before all others stands first
first_entry : (es : List Entry) (key : List ℕ) (value : BlockRef) → All Greater key es → with_entry es key value ≡ (record { key = key; value = value }) ∷ es
first_entry es key value more = with_entry_parts key [] [] es tt more value ∙ ap (λ xs. xs ++ es) (one_entry key value)

module _ (b later : Blocks) (at leaf moved new : BlockRef) (key : List ℕ) (shared : ℕ) (value : BlockRef) (t : IsTreeAt (length key) b at) (own : Owned (refs_at (length key) b at) b)
    (parts : PartsAt (node_at b at) key shared)
    (changed : Swaps b later at (new ∷ moved ∷ leaf ∷ [])) (hangs : later leaf ≡ Some (spelled (Leaf parts.other_rest value)))
    (moves : later moved ≡ Some (spelled (shortened_by (suc (length parts.begin)) (node_at b at))))
    (stands : later new ≡ Some (spelled (Inner parts.begin (fork_links parts.node_byte moved parts.other leaf)))) (own_byte : parts.node_byte < 256) (other_byte : parts.other < 256)
    (moved_ref : IsRef moved) (leaf_ref : IsRef leaf) (valued : IsRef value) where
  -- the tree's references are the node's own and those below it
  node_refs : refs_at (length key) b at ≡ at ∷ refs_in (refs (length key) b) (node_at b at)
  unfolding refs
  node_refs = refl

  -- the blocks of the nodes below the old one are as they were
  kept : (r : BlockRef) → IsIn r (refs_in (refs (length key) b) (node_at b at)) → later r ≡ b r
  kept r is =
      let all : times r (refs_at (length key) b at) ≡ one r at + times r (refs_in (refs (length key) b) (node_at b at)) = ap (times r) node_refs in
      changed.kept r (live_is_in_change b r (omega (arith, own r, all, is))) (other_than r at (omega (arith, own r, all, live_once b r, is)))

  -- the old node stands in the moved block with the end of its prefix alone, over the same trees
  short : Shortened (length key) (length key - suc (length parts.begin)) b later at moved parts.begin parts.node_byte
  short = shortened (length key) b later at moved (node_at b at) parts.begin parts.node_rest parts.node_byte t refl parts.prefix_is moves kept

  -- the key's bytes behind the shared ones and one edge are as many as are left below the new node
  left_is : length parts.other_rest ≡ length key - suc (length parts.begin)
  left_is = omega (arith, ap length parts.key_is, length-append parts.begin (parts.other ∷ parts.other_rest))

  -- the bytes that the key shares with the prefix are fewer than the key's
  begin_short : length parts.begin < length key
  begin_short = omega (arith, ap length parts.key_is, length-append parts.begin (parts.other ∷ parts.other_rest))

  -- the tree of the shortened node is the same with as many levels as the key has bytes
  lifted : SameLevels (suc (length key - suc (length parts.begin))) (length key) (length key - suc (length parts.begin)) later moved
  lifted = let fewer = begin_short in same_levels (suc (length key - suc (length parts.begin))) (length key) (length key - suc (length parts.begin)) later moved (omega arith) short.tree

  -- the new leaf's block holds the rest of the key and the value, and fits below the new node
  leaf_now : LeafAt (length key - suc (length parts.begin)) later leaf parts.other_rest value
  leaf_now = record { bytes = spelled (Leaf parts.other_rest value); block = hangs; holds = refl; fits = (left_is, valued) }

  -- the new leaf is a tree of one entry and one reference with any number of levels above zero
  leaf_many : (m : ℕ) → 0 < m → IsTree m (length key - suc (length parts.begin)) later leaf × (entries m later leaf ≡ (record { key = parts.other_rest; value = value }) ∷ [])
      × (refs m later leaf ≡ leaf ∷ [])
  leaf_many zero h = absurd (omega arith)
  leaf_many (suc m) h =
      let is = leaf_node m (length key - suc (length parts.begin)) later leaf parts.other_rest value leaf_now in (
        leaf_tree m (length key - suc (length parts.begin)) later leaf parts.other_rest value leaf_now,
        leaf_entries m later leaf parts.other_rest value is,
        leaf_refs m later leaf
            parts.other_rest value is,
      )

  -- the new leaf is a tree of one entry and one reference with as many levels as the key has bytes
  hung : IsTree (length key) (length key - suc (length parts.begin)) later leaf × (entries (length key) later leaf ≡ (record { key = parts.other_rest; value = value }) ∷ [])
      × (refs (length key) later leaf ≡ leaf ∷ [])
  hung = (let short = begin_short in leaf_many (length key) (omega arith))

  -- the entries of the shortened node, behind the bytes that its prefix lost, are those of the old tree
  moved_entries : map (under (parts.begin ++ parts.node_byte ∷ [])) (entries (length key) later moved) ≡ entries_at (length key) b at
  moved_entries = ap (map (under (parts.begin ++ parts.node_byte ∷ []))) lifted.entries_are ∙ sym short.entries_are

  -- the new leaf's entry, behind the shared bytes and the key's own one, is that of the key and the value
  leaf_entry : map (under (parts.begin ++ parts.other ∷ [])) (entries (length key) later leaf) ≡ (record { key = key; value = value }) ∷ []
  leaf_entry = ap (map (under (parts.begin ++ parts.other ∷ []))) hung.1 ∙ ap (λ k. (record { key = k; value = value }) ∷ []) (sym (parts.key_is ∙ key_under parts.begin parts.other_rest parts.other))

  -- the references of the shortened node are the moved one and those that stood below the old node
  moved_refs : refs (length key) later moved ≡ moved ∷ short.below
  moved_refs = lifted.refs_are ∙ short.new_refs

  -- where the new node owns the shortened one's tree and the leaf, no block outside the old and new tree has changed
  done : (ms : List BlockRef) → refs_at (length key) later new ≡ new ∷ ms → ((r : BlockRef) → times r ms ≡ one r moved + (times r short.below + one r leaf))
      → Changes b later (refs_at (length key) b at) (refs_at (length key) later new)
  done ms is in_ms =
      changes_counted b later (refs_at (length key) b at) (refs_at (length key) later new) own
      (changed.counts (refs_at (length key) b at) (refs_at (length key) later new) (λ r. omega (arith, ap (times r) is, in_ms r, ap (times r) short.old_refs)))

  -- the tree has become one at the new reference with the value at the key, and no other block has changed
  pub split_at : Becomes (length key) b later at new (with_entry (entries_at (length key) b at) key value)
  split_at = elim (parts_side (length key) b at key shared parts) [
    | inl low ↦
        (let is = ap (λ ls. Some (spelled (Inner parts.begin ls))) (cond-true _ _ _ (lt-ltb parts.node_byte parts.other low.0)) in
        let fork = fork_at (length key) later new parts.begin parts.node_byte moved parts.other leaf begin_short low.0 other_byte moved_ref leaf_ref lifted.tree hung.0 (stands ∙ is) in
        record {
          tree = fork.tree;
          entries_are = fork.entries_are ∙ ap (λ xs. xs ++ map (under (parts.begin ++ parts.other ∷ [])) (entries (length key) later leaf)) moved_entries
              ∙ ap (λ xs. entries_at (length key) b at ++ xs) leaf_entry ∙ sym (last_entry (entries_at (length key) b at) key value low.1);
          changes = done (refs (length key) later moved ++ refs (length key) later leaf) fork.refs_are
              (λ r. omega (arith, times-append r (refs (length key) later moved) (refs (length key) later leaf), ap (times r) moved_refs, ap (times r) hung.2));
        })
    | inr high ↦
        (let is = ap (λ ls. Some (spelled (Inner parts.begin ls))) (cond-false _ _ _ (le-ltb parts.node_byte parts.other (let more = high.0 in omega arith))) in
        let fork = fork_at (length key) later new parts.begin parts.other leaf parts.node_byte moved begin_short high.0 own_byte leaf_ref moved_ref hung.0 lifted.tree (stands ∙ is) in
        record {
          tree = fork.tree;
          entries_are = fork.entries_are ∙ ap (λ xs. xs ++ map (under (parts.begin ++ parts.node_byte ∷ [])) (entries (length key) later moved)) leaf_entry
              ∙ ap (λ xs. (record { key = key; value = value }) ∷ xs) moved_entries ∙ sym (first_entry (entries_at (length key) b at) key value high.1);
          changes = done (refs (length key) later leaf ++ refs (length key) later moved) fork.refs_are
              (λ r. omega (arith, times-append r (refs (length key) later leaf) (refs (length key) later moved), ap (times r) moved_refs, ap (times r) hung.2));
        })
  ]

-- what code asks of the bytes that it shortens
pub record Ready (key seen : List ℕ) (shared own : ℕ) : Type 0 where
  pub node : (rest : ℕ) × IsNode rest seen × (rest ≤ 16)
  pub within : 2 + shared < length seen
  pub from : shared + 1 ≤ length (prefix_from seen)
  pub own_is : get_or seen (2 + shared) 0 ≡ own

-- after a leaf was put, the bytes of a node whose prefix a key leaves may be shortened there
pub split_ready : (b b1 : Blocks) (at leaf : BlockRef) (key : List ℕ) (shared : ℕ) → IsTreeAt (length key) b at → length key ≤ 16 → (parts : PartsAt (node_at b at) key shared)
    → Puts b b1 (leaf ∷ []) → (seen : List ℕ) → b1 at ≡ Some seen → Ready key seen shared parts.node_byte
split_ready b b1 at leaf key shared t few parts puts seen read =
    let was : IsSome (b at) = tree_live (suc (length key)) (length key) b at t in
    let here : b at ≡ Some seen = sym (puts.kept at was) ∙ read in
    let node = tree_node (suc (length key)) (length key) b at seen t here in
    let prefix : prefix_from seen ≡ parts.begin ++ parts.node_byte ∷ parts.node_rest = sym (prefix_told (length key) seen node) ∙ ap prefix_in (sym (node_read b at seen here)) ∙ parts.prefix_is in
    let long : length (prefix_from seen) ≡ shared + suc (length parts.node_rest) = ap length prefix ∙ length-append parts.begin (parts.node_byte ∷ parts.node_rest)
    ∙ ap (λ n. n + suc (length parts.node_rest)) parts.many in
    let room = parts_within (length key) seen node in
    let told = prefix_len (length key) seen node in
    let byte : get_or seen (2 + shared) 0 ≡ parts.node_byte =
    sym (get_or-take (slice_index seen 1) (drop 2 seen) shared 0 (omega arith) ∙ get_or-drop 2 seen shared 0) ∙ ap (λ p. get_or p shared 0) prefix
    ∙ get_or_at parts.begin parts.node_byte parts.node_rest 0 shared parts.many in
    record { node = (length key, node, few); within = omega arith; from = omega arith; own_is = byte }

-- a key that leaves a prefix has more bytes than it shares with that
pub key_goes_on : {node : Node} {key : List ℕ} {shared : ℕ} → PartsAt node key shared → shared < length key
key_goes_on parts = omega (arith, ap length parts.key_is, length-append parts.begin (parts.other ∷ parts.other_rest), parts.many)

-- what code splits
pub split_done : (b b1 b2 b3 later : Blocks) (at leaf moved new : BlockRef) (key : List ℕ) (shared : ℕ) (value : BlockRef) → IsTreeAt (length key) b at → length key ≤ 16
    → Owned (refs_at (length key) b at) b → (parts : PartsAt (node_at b at) key shared)
    → b leaf ≡ None → (first : List ℕ) → b1 ≡ with_block b leaf (Some first) → first ≡ spelled (Leaf (drop (shared + 1) key) value)
    → (seen again : List ℕ) → b1 at ≡ Some seen → b1 at ≡ Some again → (second : List ℕ) → second ≡ spelled (shortened_by (shared + 1) (node_of again))
    → b1 moved ≡ None → b2 ≡ with_block b1 moved (Some second) → (third : List ℕ) → third ≡ spelled (Inner (take shared key) (fork_links (get_or seen (2 + shared) 0) moved (get_or key shared 0) leaf))
    → b2 new ≡ None → b3 ≡ with_block b2 new (Some third) → later ≡ with_block b3 at None
    → ((i : ℕ) → get_or key i 0 < 256) → get_or seen (2 + shared) 0 < 256 → IsRef moved → IsRef leaf → IsRef value
    → Becomes (length key) b later at new (with_entry (entries_at (length key) b at) key value)
split_done b b1 b2 b3 later at leaf moved new key shared value t few own parts fresh1 first put1 first_is seen again read reread second second_is fresh2 put2 third third_is fresh3 put3
    ended small seen_small moved_ref leaf_ref valued =
    let was : IsSome (b at) = tree_live (suc (length key)) (length key) b at t in
    let one_put : Puts b b1 (leaf ∷ []) = puts_more b b b1 [] leaf first (puts_none b) fresh1 put1 in
    let two_put : Puts b b2 (moved ∷ leaf ∷ []) = puts_more b b1 b2 (leaf ∷ []) moved second one_put fresh2 put2 in
    let three_put : Puts b b3 (new ∷ moved ∷ leaf ∷ []) = puts_more b b2 b3 (moved ∷ leaf ∷ []) new third two_put fresh3 put3 in
    let changed : Swaps b later at (new ∷ moved ∷ leaf ∷ []) = swaps b b3 later at (new ∷ moved ∷ leaf ∷ []) three_put was ended in
    let node : node_of again ≡ node_at b at = ap (λ o. node_of (unwrap_or o [])) (sym reread ∙ one_put.kept at was) in
    let ready = split_ready b b1 at leaf key shared t few parts one_put seen read in
    let next : shared + 1 ≡ suc (length parts.begin) = (let many = parts.many in omega arith) in
    let rest : drop (shared + 1) key ≡ parts.other_rest = ap (λ n. drop n key) next ∙ ap (drop (suc (length parts.begin))) parts.key_is ∙ cut_prefix parts.begin parts.other_rest parts.other in
    let begin : take shared key ≡ parts.begin = ap (take shared) parts.key_is ∙ take_at parts.begin (parts.other ∷ parts.other_rest) shared parts.many in
    let other : get_or key shared 0 ≡ parts.other = ap (λ k. get_or k shared 0) parts.key_is ∙ get_or_at parts.begin parts.other parts.other_rest 0 shared parts.many in
    let hangs : later leaf ≡ Some (spelled (Leaf parts.other_rest value)) =
    ended_stays b b3 later at leaf first (put_stays b2 b3 new leaf third first (put_stays b1 b2 moved leaf second first (put_here b b1 leaf first put1) fresh2 put2) fresh3 put3) was fresh1
    ended ∙ ap Some (first_is ∙ ap (λ k. spelled (Leaf k value)) rest) in
    let moves : later moved ≡ Some (spelled (shortened_by (suc (length parts.begin)) (node_at b at))) =
    ended_stays b b3 later at moved second (put_stays b2 b3 new moved third second (put_here b1 b2 moved second put2) fresh3 put3) was (fresh_before b b1 moved (leaf ∷ []) one_put fresh2) ended
    ∙ ap Some (second_is ∙ ap (λ n. spelled (shortened_by n (node_of again))) next ∙ ap (λ m. spelled (shortened_by (suc (length parts.begin)) m)) node) in
    let stands : later new ≡ Some (spelled (Inner parts.begin (fork_links parts.node_byte moved parts.other leaf))) =
    ended_stays b b3 later at new third (put_here b2 b3 new third put3) was (fresh_before b b2 new (moved ∷ leaf ∷ []) two_put fresh3) ended
    ∙ ap Some
    (third_is ∙ ap (λ p. spelled (Inner p (fork_links (get_or seen (2 + shared) 0) moved (get_or key shared 0) leaf))) begin
    ∙ ap (λ e. spelled (Inner parts.begin (fork_links e moved (get_or key shared 0) leaf))) ready.own_is
    ∙ ap (λ e. spelled (Inner parts.begin (fork_links parts.node_byte moved e leaf))) other) in
    split_at b later at leaf moved new key shared value t own parts changed hangs moves stands (subst (λ e. e < 256) ready.own_is seen_small) (subst (λ e. e < 256) other (small shared))
    moved_ref leaf_ref valued

-- two put blocks are given back
pub undone_two : (b b1 b2 b3 b4 : Blocks) (leaf moved : BlockRef) (first second : List ℕ) → b leaf ≡ None → b1 ≡ with_block b leaf (Some first) → b1 moved ≡ None
    → b2 ≡ with_block b1 moved (Some second) → b3 ≡ with_block b2 moved None → b4 ≡ with_block b3 leaf None → b4 ≡ b
undone_two b b1 b2 b3 b4 leaf moved first second fresh1 put1 fresh2 put2 back1 back2 =
    let third : b3 ≡ b1 = back1 ∙ ap (λ m. with_block m moved None) put2 ∙ with_block_undone b1 moved (Some second) fresh2 in
    back2 ∙ ap (λ m. with_block m leaf None) (third ∙ put1) ∙ with_block_undone b leaf (Some first) fresh1
