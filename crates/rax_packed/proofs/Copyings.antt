-- A tree while it is copied: the copy's first links name copies, and the others still the nodes that are to be copied.
use Rattle.std.proofs.Common.{◌≡◌, ◌∙◌, ℕ, suc, ◌+◌, ◌*◌, ◌-◌, ◌<◌, ◌≤◌, false, cond, is_some, List, [], ◌∷◌, ◌++◌, length, take, drop, get_or, map, Option, Some, None, IsSome, unwrap_or}
use Rattle.std.proofs.Common.{refl, sym, ap, subst, inl, inr, arith, append_assoc, length-append, length-drop}
use Rattle.std.proofs.lemmas.List.{append-nil, take_at, take_all, take_more, drop_more}
use Rattle.std.proofs.Math.ListN.{drop_of_length-le}
use Rattle.std.specs.List.{AllByRecursion, flat_map}
use Rattle.std.proofs.lemmas.List.Concat.{flat_map-append}
use Rattle.std.proofs.lemmas.Bool.{cond-true}
use Rattle.blocks.specs.declared.BlockRef.{BlockRef}
use Rattle.blocks.specs.Blocks.{Blocks, ref_eq, times, live, IsIn, Changes, Owned, with_block, bytes_at, overwritten}
use Rattle.blocks.proofs.Refs.{ref_eq_refl, ref_eq_sym, with_block_same, with_block_other, apart_live}
use Rattle.blocks.proofs.Change.{one, cases_in, with_block_undone, live_is_in_change, other_than, counts_then, counts_changed, counts_written, changes_counted, changes_both, changes_owned}
use Rattle.blocks.proofs.Change.{changes_then}
use Rattle.rax_packed.specs.Nodes.{Link, Node, Leaf, Inner, IsInner, IsNode, HoldsNode, Fits, IsRef, spelled, ref_bytes, node_of}
use Rattle.rax_packed.specs.Trees.{Entry, node_at, under, entries, refs, IsTree, refs_at, IsTreeAt}
use Rattle.rax_packed.specs.Ways.{IsInnerBytes, links_in, prefix_in}
use Rattle.rax_packed.specs.Copies.{IsCopy}
use Rattle.rax_packed.proofs.Entries.{below_links, all-append}
use Rattle.rax_packed.proofs.Frames.{refs_below, SameTree, same_tree, SameBelow, same_below, LevelsBelow, levels_below, InnerAt, LeafAt, inner_at, inner_node, leaf_node, inner_tree}
use Rattle.rax_packed.proofs.Frames.{leaf_tree, inner_entries, leaf_entries, inner_refs, leaf_refs}
use Rattle.rax_packed.proofs.Links.{inner_relinked, relinked_bytes}
use Rattle.rax_packed.proofs.Looks.{Named, named, node_read, tree_node, same_some}
use Rattle.rax_packed.proofs.Releases.{node_refs, node_trees, all_at, refs_split, with_link}
use Rattle.rax_packed.proofs.Steps.{LinkReady}
use Rattle.rax_packed.proofs.Spellings.{node_told, node_held}

-- what was live stays where only new blocks were placed
pub kept_live : (a b : Blocks) (news : List BlockRef) (r : BlockRef) → Changes a b [] news → IsSome (a r) → b r ≡ a r
kept_live a b news r p was = elim (cases_in r news) [ inl out ↦ p.kept r refl out | inr isin ↦ absurd (none_some (a r) (p.fresh r isin refl) was) ]
  where
    none_some : (o : Option (List ℕ)) → o ≡ None → IsSome o → ⊥
    none_some None e h = cc
    none_some (Some x) e h = cc

-- a change of no references leaves the store as it was
pub all_same : (a b : Blocks) → Changes a b [] [] → b ≡ a
all_same a b p = λ i r. p.kept r refl refl i

-- the blocks before one was placed
pub base_is : (b m : Blocks) (new : BlockRef) (bytes : List ℕ) → b new ≡ None → m ≡ with_block b new (Some bytes) → with_block m new None ≡ b
base_is b m new bytes fresh put = ap (λ x. with_block x new None) put ∙ with_block_undone b new (Some bytes) fresh

-- the node with other links
abbrev pub relinked : Node → List Link → Node
relinked (Leaf prefix value) links = Leaf prefix value
relinked (Inner prefix old) links = Inner prefix links

-- the copy of a node of which the trees below the first links are copied
pub record Copying (left n : ℕ) (node : Node) (b m : Blocks) (new : BlockRef) (k : ℕ) : Type 0 where
  pub done : List Link
  pub many : length done ≡ k
  pub bytes : List ℕ
  pub block : m new ≡ Some bytes
  pub holds : HoldsNode bytes (relinked node (done ++ drop k (links_in node)))
  pub fits : Fits n (relinked node (done ++ drop k (links_in node)))
  pub trees : AllByRecursion (λ l. IsTreeAt left m l.to) done
  pub entries_are : (begin : List ℕ) → below_links begin (entries (suc left) m) done ≡ below_links begin (entries (suc left) b) (take k (links_in node))
  pub as_many : length (refs_below (suc left) m done) ≡ length (refs_below (suc left) b (take k (links_in node)))
  pub changes : Changes b m [] (new ∷ refs_below (suc left) m done)

-- where just the bytes of the node were placed, the trees below none of its links are copied yet
pub copying_none : (left n : ℕ) (node : Node) (b m : Blocks) (new : BlockRef) → Fits n node → m ≡ with_block b new (Some (spelled node)) → Changes b m [] (new ∷ []) → Copying left n node b m new 0
copying_none left n (Leaf prefix value) b m new fits put change = record {
  done = [];
  many = refl;
  bytes = spelled (Leaf prefix value);
  block = ap (λ f. f new) put ∙ with_block_same b new (Some (spelled (Leaf prefix value)));
  holds = refl;
  fits = fits;
  trees = tt;
  entries_are = λ begin. refl;
  as_many = refl;
  changes = change;
}
copying_none left n (Inner prefix links) b m new fits put change = record {
  done = [];
  many = refl;
  bytes = spelled (Inner prefix links);
  block = ap (λ f. f new) put ∙ with_block_same b new (Some (spelled (Inner prefix links)));
  holds = (0, sym (append-nil (spelled (Inner prefix links))));
  fits = fits;
  trees = tt;
  entries_are = λ begin. refl;
  as_many = refl;
  changes = change;
}

-- the tree below one more link is copied, and the copy's link names it
module _ (left n : ℕ) (prefix : List ℕ) (links : List Link) (b m m2 m3 : Blocks) (new child : BlockRef) (k : ℕ) (d : Link) (c : Copying left n (Inner prefix links) b m new k) (h : k < length links)
    (source : SameTree (suc left) b m (get_or links k d).to) (copy : IsCopy left m m2 (get_or links k d).to child) (ref : IsRef child)
    (written : (offset : ℕ) → offset ≡ 4 + length (prefix_in (node_of (bytes_at m2 new))) + length (links_in (node_of (bytes_at m2 new))) + 12 * k
    → m3 ≡ with_block m2 new (Some (overwritten (bytes_at m2 new) offset (ref_bytes child)))) where
  -- the link of the old node at the place, whose tree is copied next
  abbrev l : Link
  l = get_or links k d

  -- the link of the same edge that names the tree's copy
  abbrev now : Link
  now = record { edge = (get_or links k d).edge; to = child }

  -- the links of the old node behind that place
  abbrev behind : List Link
  behind = drop (k + 1) links

  -- the copy's reference counts once as itself
  here : one new new ≡ 1
  here = cond-true _ _ _ (ref_eq_refl new)

  -- the copy's reference is live before the next tree is copied
  new_live : IsSome (m new)
  new_live = subst (λ o. IsSome o) (sym c.block) refl

  -- the copy's block is the same after the next tree was copied
  new_same : m2 new ≡ m new
  new_same = kept_live m m2 (refs_at left m2 child) new copy.changes new_live

  -- the old node's links from the place on are the one there and those behind it
  old_links : drop k links ≡ l ∷ behind
  old_links = drop_more links k d h

  -- the bytes of the copy's block are those that it had before the next tree was copied
  stood : bytes_at m2 new ≡ c.bytes
  stood = ap (λ o. unwrap_or o []) (new_same ∙ c.block)

  -- the copy's bytes hold a node whose links name copies before the place, and from it on what the old node's do
  holds_old : HoldsNode c.bytes (Inner prefix (c.done ++ l ∷ behind))
  holds_old = subst (λ ls. HoldsNode c.bytes (Inner prefix (c.done ++ ls))) old_links c.holds

  -- the copy's node with the old link at the place is an inner one that fits
  inner_old : IsInner n prefix (c.done ++ l ∷ behind)
  inner_old = subst (λ ls. IsInner n prefix (c.done ++ ls)) old_links c.fits

  -- before its link is written, the copy's bytes tell the node with the old link at the place
  node : node_of (bytes_at m2 new) ≡ Inner prefix (c.done ++ l ∷ behind)
  node = ap node_of stood ∙ node_told n c.bytes (Inner prefix (c.done ++ l ∷ behind)) holds_old inner_old

  -- where the reference of the link at the place begins in the copy's bytes
  abbrev offset : ℕ
  offset = 4 + length prefix + length (c.done ++ l ∷ behind) + 12 * length c.done

  -- by the writing the reference of the tree's copy stands at that offset in the copy's bytes, and all else is the same
  is : m3 ≡ with_block m2 new (Some (overwritten (bytes_at m2 new) offset (ref_bytes child)))
  is = written offset
      (ap (λ q. 4 + length (prefix_in q) + length (links_in q) + 12 * length c.done) (sym node)
      ∙ ap (λ j. 4 + length (prefix_in (node_of (bytes_at m2 new))) + length (links_in (node_of (bytes_at m2 new))) + 12 * j) c.many)

  -- the writing leaves each block but the copy's own
  others : (r : BlockRef) → ref_eq r new ≡ false → m3 r ≡ m2 r
  others r apart = ap (λ f. f r) is ∙ with_block_other m2 new r (Some (overwritten (bytes_at m2 new) offset (ref_bytes child))) apart

  -- the trees that were copied before are the same after the next one's link was written
  same_done : SameBelow (suc left) m m3 c.done
  same_done = same_below (suc left) m m3 c.done (λ r isin. (let once = c.changes.once r in
      others r (other_than r new (omega (arith, once, isin))) ∙ kept_live m m2 (refs_at left m2 child) r copy.changes (c.changes.entered r (omega (arith, isin)))))

  -- the tree just copied is the same after its link was written
  same_child : SameTree (suc left) m2 m3 child
  same_child = same_tree (suc left) m2 m3 child (λ r isin. others r (ref_eq_sym r new ∙ apart_live m new r new_live (copy.changes.fresh r isin refl)))

  -- the links that name copies and those behind the place make up the links of the copy's node
  now_links : (c.done ++ now ∷ []) ++ behind ≡ c.done ++ now ∷ behind
  now_links = append_assoc c.done (now ∷ []) behind

  -- the references below the links that name copies are those from before and those of the tree just copied
  refs_now : refs_below (suc left) m3 (c.done ++ now ∷ []) ≡ refs_below (suc left) m c.done ++ refs_at left m2 child
  refs_now =
      flat_map-append (λ q. refs (suc left) m3 q.to) c.done (now ∷ []) ∙ ap (λ xs. xs ++ refs_below (suc left) m3 (now ∷ [])) same_done.refs_are
      ∙ ap (λ xs. refs_below (suc left) m c.done ++ xs) (append-nil (refs (suc left) m3 child) ∙ same_child.refs_are)

  -- the references below the old links up to the place are those before it and those of the tree there
  refs_more : refs_below (suc left) b (take (k + 1) links) ≡ refs_below (suc left) b (take k links) ++ refs (suc left) b l.to
  refs_more = ap (refs_below (suc left) b) (take_more links k d h) ∙ flat_map-append (λ q. refs (suc left) b q.to) (take k links) (l ∷ [])
      ∙ ap (λ xs. refs_below (suc left) b (take k links) ++ xs) (append-nil (refs (suc left) b l.to))

  -- before the link is written, the copy's block and the copied trees were placed, and no other block has changed
  placed : Changes b m2 [] ((new ∷ refs_below (suc left) m c.done) ++ refs_at left m2 child)
  placed = changes_both b m m2 [] (new ∷ refs_below (suc left) m c.done) [] (refs_at left m2 child) (λ r. omega arith) c.changes copy.changes

  -- after the link was written, the copy's block and the copied trees were placed, and no other block has changed
  changed : Changes b m3 [] (new ∷ refs_below (suc left) m3 (c.done ++ now ∷ []))
  changed =
      let before = (new ∷ refs_below (suc left) m c.done) ++ refs_at left m2 child in
      let after = new ∷ refs_below (suc left) m3 (c.done ++ now ∷ []) in
      let same : (r : BlockRef) → times r after ≡ times r before = λ r. ap (λ xs. times r (new ∷ xs)) refs_now in
      let isin : IsIn new before = omega (arith, here) in
      changes_counted b m3 [] after (λ r. omega arith)
      (counts_then b m2 m3 [] before after (counts_changed b m2 [] before (λ r. omega arith) placed)
      (counts_written m2 m3 new (overwritten (bytes_at m2 new) offset (ref_bytes child)) before after (subst (λ o. IsSome o) (sym new_same) new_live) is isin same))

  -- the entries below the links that name copies are those below as many first links of the old node
  copied_entries : (begin : List ℕ) → below_links begin (entries (suc left) m3) (c.done ++ now ∷ []) ≡ below_links begin (entries (suc left) b) (take (k + 1) links)
  copied_entries begin =
      let f : Blocks → Link → List Entry = λ x q. map (under (begin ++ q.edge ∷ [])) (entries (suc left) x q.to) in
      flat_map-append (f m3) c.done (now ∷ []) ∙ ap (λ xs. xs ++ flat_map (f m3) (now ∷ [])) (same_done.entries_are begin ∙ c.entries_are begin)
      ∙ ap (λ xs. below_links begin (entries (suc left) b) (take k links) ++ xs)
      (append-nil (f m3 now) ∙ ap (map (under (begin ++ l.edge ∷ []))) (same_child.entries_are ∙ copy.entries_are ∙ source.entries_are) ∙ sym (append-nil (f b l)))
      ∙ sym (ap (flat_map (f b)) (take_more links k d h) ∙ flat_map-append (f b) (take k links) (l ∷ []))

  -- where one more tree was copied and its link written, the trees below one more of the first links are copied
  pub copying_more : Copying left n (Inner prefix links) b m3 new (k + 1)
  copying_more = record {
    done = c.done ++ now ∷ [];
    many = omega (arith, length-append c.done (now ∷ []), c.many);
    bytes = overwritten c.bytes offset (ref_bytes child);
    block = ap (λ f. f new) is ∙ with_block_same m2 new (Some (overwritten (bytes_at m2 new) offset (ref_bytes child))) ∙ ap (λ xs. Some (overwritten xs offset (ref_bytes child))) stood;
    holds = subst (λ ls. HoldsNode (overwritten c.bytes offset (ref_bytes child)) (Inner prefix ls)) (sym now_links)
        (relinked_bytes c.bytes prefix c.done behind l.edge offset l.to child holds_old refl);
    fits = subst (λ ls. IsInner n prefix ls) (sym now_links) (inner_relinked n prefix c.done behind l.edge l.to child ref inner_old);
    trees = all-append (λ q. IsTreeAt left m3 q.to) c.done (now ∷ []) (same_done.trees left c.trees) (same_child.tree left copy.tree, tt);
    entries_are = copied_entries;
    as_many =
        omega (
          arith,
          ap length refs_now,
          length-append (refs_below (suc left) m c.done) (refs_at left m2 child),
          c.as_many,
          copy.as_many,
          ap length source.refs_are,
          ap length refs_more,
          length-append (refs_below (suc left) b (take k links)) (refs (suc left) b l.to),
        );
    changes = changed;
  }

-- links whose number is zero are the empty list
no_links : (links : List Link) → length links ≡ 0 → links ≡ []
no_links [] h = refl
no_links (l ∷ links) h = absurd (omega arith)

-- a node of either kind is copied where the trees below all its links are
copied_by : (left n : ℕ) (node : Node) (b m : Blocks) (at new : BlockRef) (k : ℕ) → IsTreeAt n b at → node_at b at ≡ node → left ≡ n - suc (length (prefix_in node))
    → k ≡ length (links_in node) → Copying left n node b m new k → IsCopy n b m at new
copied_by left n (Leaf prefix value) b m at new k t is few all c =
    let copy : LeafAt n m new prefix value = record { bytes = c.bytes; block = c.block; holds = c.holds; fits = c.fits } in
    let node = leaf_node n n m new prefix value copy in
    let old_refs = leaf_refs n b at prefix value is in
    let new_refs = leaf_refs n m new prefix value node in
    let none : c.done ≡ [] = no_links c.done (c.many ∙ all) in
    record {
      tree = leaf_tree n n m new prefix value copy;
      entries_are = leaf_entries n m new prefix value node ∙ sym (leaf_entries n b at prefix value is);
      as_many = ap length new_refs ∙ sym (ap length old_refs);
      changes = subst (Changes b m []) (sym new_refs) (subst (λ ls. Changes b m [] (new ∷ refs_below (suc left) m ls)) none c.changes);
    }
copied_by left n (Inner prefix links) b m at new k t is few all c =
    let source : InnerAt n n b at prefix links = inner_at n n b at prefix links t is in
    let short = source.inner.short in
    let less : left < n = omega (arith, few, short) in
    let whole : c.done ++ drop k links ≡ c.done = ap (λ ls. c.done ++ ls) (drop_of_length-le links (omega (arith, all))) ∙ append-nil c.done in
    let taken : take k links ≡ links = take_all k links (omega (arith, all)) in
    let up : LevelsBelow (suc left) n left m c.done = levels_below (suc left) n left m less c.done c.trees in
    let down : LevelsBelow n (suc left) left b links = levels_below n (suc left) left b (omega arith) links (subst (λ j. AllByRecursion (λ l. IsTree n j b l.to) links) (sym few) source.below) in
    let copy : InnerAt n n m new prefix c.done = record {
      bytes = c.bytes;
      block = c.block;
      holds = subst (λ ls. HoldsNode c.bytes (Inner prefix ls)) whole c.holds;
      inner = subst (λ ls. IsInner n prefix ls) whole c.fits;
      below = subst (λ j. AllByRecursion (λ l. IsTree n j m l.to) c.done) few up.trees;
    } in
    let node = inner_node n n m new prefix c.done copy in
    let old_refs : refs_at n b at ≡ at ∷ refs_below (suc left) b links = inner_refs n b at prefix links is ∙ ap (λ xs. at ∷ xs) (sym down.refs_are) in
    let new_refs : refs_at n m new ≡ new ∷ refs_below (suc left) m c.done = inner_refs n m new prefix c.done node ∙ ap (λ xs. new ∷ xs) up.refs_are in
    record {
      tree = inner_tree n n m new prefix c.done copy;
      entries_are = inner_entries n m new prefix c.done node ∙ up.entries_are prefix ∙ c.entries_are prefix ∙ ap (below_links prefix (entries (suc left) b)) taken ∙ down.entries_are prefix
          ∙ sym (inner_entries n b at prefix links is);
      as_many = ap length new_refs ∙ ap suc (c.as_many ∙ ap (λ ls. length (refs_below (suc left) b ls)) taken) ∙ sym (ap length old_refs);
      changes = subst (Changes b m []) (sym new_refs) c.changes;
    }

-- a tree is copied where the trees below all links of its top node are
pub copied_all : (left n : ℕ) (b m : Blocks) (at new : BlockRef) (k : ℕ) → IsTreeAt n b at → left ≡ n - suc (length (prefix_in (node_at b at))) → k ≡ length (links_in (node_at b at))
    → Copying left n (node_at b at) b m new k → IsCopy n b m at new
copied_all left n b m at new k t few all c = copied_by left n (node_at b at) b m at new k t refl few all c

-- the trees that are to be copied, while others are placed
module _ (n : ℕ) (b m : Blocks) (at : BlockRef) (t : IsTreeAt n b at) (own : Owned (refs_at n b at) b) (news : List BlockRef) (p : Changes b m [] news) (k : ℕ) (d : Link)
    (h : k < length (links_in (node_at b at))) where
  -- how many bytes of each key are left below the node's links
  abbrev left : ℕ
  left = n - suc (length (prefix_in (node_at b at)))

  -- the links of the node that is copied
  abbrev links : List Link
  links = links_in (node_at b at)

  -- the reference that the link at the place names
  abbrev to : BlockRef
  to = (get_or links k d).to

  -- the link at the place names a tree, whose keys are as long as what is left below the node
  source_named : Named b to n left
  source_named = named b to n left (all_at (λ l. IsTree n left b l.to) links k d h (node_trees n b at t))

  -- the references of the tree that the link names are live, and none stands there twice
  counted : (r : BlockRef) → times r (refs_at left b to) ≤ live b r
  counted r = omega (arith, own r, ap (times r) (node_refs n b at), refs_split n b links k d r h, ap (times r) source_named.refs_are)

  -- the blocks of the tree that the link names are as they were before others were placed
  stays : (r : BlockRef) → IsIn r (refs_at left b to) → m r ≡ b r
  stays r isin = kept_live b m news r p (live_is_in_change b r (omega (arith, counted r, isin)))

  -- the tree that the link names is the same as before others were placed
  pub source_same : SameTree (suc left) b m to
  source_same = same_tree (suc left) b m to stays

  -- the link names a tree also after others were placed
  pub source_tree : IsTreeAt left m to
  source_tree = source_same.tree left source_named.tree

  -- the references of the tree that the link names are owned also after others were placed
  pub source_own : Owned (refs_at left m to) m
  source_own = subst (λ xs. Owned xs m) (sym source_same.refs_are) (λ r. elim (cases_in r (refs_at left b to)) [
    | inl out ↦ omega (arith, out)
    | inr isin ↦ (let still : live m r ≡ live b r = ap (λ o. cond (is_some o) 1 0) (stays r isin) in omega (arith, counted r, still))
  ])

-- the copy's node, ready to have its first trees given back
pub record Ready (left k : ℕ) (m : Blocks) (new : BlockRef) : Type 0 where
  pub live : IsSome (m new)
  pub inner : IsInnerBytes (bytes_at m new)
  pub within : k < length (links_in (node_at m new))
  pub trees : AllByRecursion (λ l. IsTreeAt left m l.to) (take k (links_in (node_at m new)))
  pub owned : Owned (new ∷ refs_below (suc left) m (take k (links_in (node_at m new)))) m

module _ (left n : ℕ) (prefix : List ℕ) (links : List Link) (b m : Blocks) (new : BlockRef) (k : ℕ) (h : k < length links) (few : n ≤ 16) (c : Copying left n (Inner prefix links) b m new k) where
  -- the bytes under the copy's reference are those of the copy so far
  stands : bytes_at m new ≡ c.bytes
  stands = ap (λ o. unwrap_or o []) c.block

  -- the copy's node has the links that name copies, and then the remaining ones of the node that is copied
  whole : node_at m new ≡ Inner prefix (c.done ++ drop k links)
  whole = ap node_of stands ∙ node_told n c.bytes (Inner prefix (c.done ++ drop k links)) c.holds c.fits

  -- the first links of the copy's node are those that name copies
  first : take k (links_in (node_at m new)) ≡ c.done
  first = ap (λ q. take k (links_in q)) whole ∙ take_at c.done (drop k links) k c.many

  -- a copy of which a tree is still missing may have its first trees given back
  pub copying_ready : Ready left k m new
  copying_ready = record {
    live = subst (λ o. IsSome o) (sym c.block) refl;
    inner = record {
      rest = n;
      few = few;
      node = subst (IsNode n) (sym stands) (node_held n c.bytes (Inner prefix (c.done ++ drop k links)) c.holds c.fits);
      prefix = prefix;
      links = c.done
          ++ drop k links;
      is = whole;
    };
    within = omega (arith, ap (λ q. length (links_in q)) whole, length-append c.done (drop k links), length-drop k links, c.many, h);
    trees = subst (AllByRecursion (λ l. IsTreeAt left m l.to)) (sym first) c.trees;
    owned = subst (λ ls. Owned (new ∷ refs_below (suc left) m ls) m) (sym first) (changes_owned b m [] (new ∷ refs_below (suc left) m c.done) c.changes);
  }

  -- where the copy's node and its first trees are given back, the store is as before the copy
  pub uncopied : (after : Blocks) → Changes m after (new ∷ refs_below (suc left) m (take k (links_in (node_at m new)))) [] → after ≡ b
  uncopied after ended = all_same b after
      (changes_then b m after [] (new ∷ refs_below (suc left) m c.done) [] c.changes (subst (λ ls. Changes m after (new ∷ refs_below (suc left) m ls) []) first ended))

-- one turn of the loop that copies the trees below a node's links
module _ (n below count : ℕ) (b m : Blocks) (at new : BlockRef) (k : ℕ) (d : Link) (bytes : List ℕ) (t : IsTreeAt n b at) (own : Owned (refs_at n b at) b) (few : n ≤ 16)
    (read : b at ≡ Some bytes) (below_is : below ≡ n - suc (length (prefix_in (node_of bytes)))) (count_is : count ≡ length (links_in (node_of bytes))) (less : k < count)
    (c : Copying below n (node_at b at) b m new k) where
  -- the references placed so far: the copy's own, and those of the copied trees
  abbrev placed_news : List BlockRef
  placed_news = new ∷ refs_below (suc below) m c.done

  -- the node that is copied is the one that the bytes read tell
  node_seen : node_at b at ≡ node_of bytes
  node_seen = node_read b at bytes read

  -- the turn's number is less than that of the node's links
  within_links : k < length (links_in (node_at b at))
  within_links = omega (arith, less, count_is, ap (λ q. length (links_in q)) node_seen)

  -- the bytes read are an inner node's, and fewer bytes of each key are left below it than at it
  told_inner : IsInnerBytes bytes × (n - suc (length (prefix_in (node_of bytes))) < n)
  told_inner = with_link n bytes k (tree_node (suc n) n b at bytes t read) few (omega (arith, less, count_is))

  -- fewer bytes of each key are left below the node's links than at the node
  pub turn_falls : below < n
  turn_falls = omega (arith, below_is, told_inner.1)

  -- below the node each key has the bytes that the node's prefix and one edge leave of it
  left_told : below ≡ n - suc (length (prefix_in (node_at b at)))
  left_told = below_is ∙ ap (λ q. n - suc (length (prefix_in q))) (sym node_seen)

  -- the reference that the turn's link names
  abbrev goes_to : BlockRef
  goes_to = (get_or (links_in (node_at b at)) k d).to

  -- the block of the node that is copied is as it was before the copying
  pub turn_same : m at ≡ b at
  turn_same = kept_live b m placed_news at c.changes (subst (λ o. IsSome o) (sym read) refl)

  -- bytes that are read again of the node are those that were read first
  again_same : (again : List ℕ) → m at ≡ Some again → bytes ≡ again
  again_same again seen = same_some bytes again (sym read ∙ sym turn_same ∙ seen)

  -- bytes that are read again of the node are an inner node's
  pub turn_inner : (again : List ℕ) → m at ≡ Some again → IsInnerBytes again
  turn_inner again seen = subst IsInnerBytes (again_same again seen) told_inner.0

  -- the turn's link, in bytes that are read again, names the same reference
  pub turn_to : (again : List ℕ) → m at ≡ Some again → (get_or (links_in (node_of again)) k d).to ≡ goes_to
  turn_to again seen = ap (λ q. (get_or (links_in (node_of q)) k d).to) (sym (again_same again seen)) ∙ ap (λ q. (get_or (links_in q) k d).to) (sym node_seen)

  -- the turn's link names a tree after the trees before it were copied
  pub turn_tree : IsTreeAt below m goes_to
  turn_tree = subst (λ j. IsTreeAt j m goes_to) (sym left_told) (source_tree n b m at t own placed_news c.changes k d within_links)

  -- the references of the turn's tree are owned after the trees before it were copied
  pub turn_own : Owned (refs_at below m goes_to) m
  turn_own = subst (λ j. Owned (refs_at j m goes_to) m) (sym left_told) (source_own n b m at t own placed_news c.changes k d within_links)

  -- the turn's tree is the same as before the copying
  source_stays : SameTree (suc below) b m goes_to
  source_stays = subst (λ j. SameTree (suc j) b m goes_to) (sym left_told) (source_same n b m at t own placed_news c.changes k d within_links)

  -- the prefix of the inner node that the bytes read tell
  prefix_told : List ℕ
  prefix_told = told_inner.0.prefix

  -- the links of the inner node that the bytes read tell
  links_told : List Link
  links_told = told_inner.0.links

  -- the node that is copied is the inner one of this prefix and these links
  node_told_is : node_at b at ≡ Inner prefix_told links_told
  unfolding prefix_told links_told
  node_told_is = node_seen ∙ told_inner.0.is

  -- the copy so far is one of the inner node that the bytes read tell
  inner_copying : Copying below n (Inner prefix_told links_told) b m new k
  inner_copying = subst (λ q. Copying below n q b m new k) node_told_is c

  -- the turn's number is less than that of the links that the bytes read tell
  inside_links : k < length links_told
  inside_links = omega (arith, within_links, ap (λ q. length (links_in q)) node_told_is)

  -- before the turn's tree is copied, the copy's node is ready to have its first trees given back
  pub turn_ready : Ready below k m new
  turn_ready = copying_ready below n prefix_told links_told b m new k inside_links few inner_copying

  -- where the copy's node and its first trees are given back at the turn, the store is as before the copying
  pub turn_undone : (after : Blocks) → Changes m after (new ∷ refs_below (suc below) m (take k (links_in (node_at m new)))) [] → after ≡ b
  turn_undone after ended = uncopied below n prefix_told links_told b m new k inside_links few inner_copying after ended

  module _ (m2 : Blocks) (child : BlockRef) (copy : IsCopy below m m2 (get_or (links_in (node_at b at)) k d).to child) where
    -- the copy's block is the same after the turn's tree was copied
    new_stays : m2 new ≡ m new
    new_stays = kept_live m m2 (refs_at below m2 child) new copy.changes turn_ready.live

    -- after the turn's tree was copied, the copy's node has the turn's link to be written
    pub turn_link : LinkReady m2 new k
    turn_link = record {
      live = subst (λ o. IsSome o) (sym new_stays) turn_ready.live;
      inner = subst (λ o. IsInnerBytes (unwrap_or o [])) (sym new_stays) turn_ready.inner;
      within = subst (λ o. k < length (links_in (node_of (unwrap_or o [])))) (sym new_stays) turn_ready.within;
    }

    -- where the turn's link was written to name its tree's copy, the trees below one more of the links are copied
    pub turn_more : (m3 : Blocks) → IsRef child →
        ((offset : ℕ) → offset ≡ 4 + length (prefix_in (node_of (bytes_at m2 new))) + length (links_in (node_of (bytes_at m2 new))) + 12 * k
        → m3 ≡ with_block m2 new (Some (overwritten (bytes_at m2 new) offset (ref_bytes child))))
        → Copying below n (node_at b at) b m3 new (k + 1)
    turn_more m3 ref written =
        let one : goes_to ≡ (get_or links_told k d).to = ap (λ q. (get_or (links_in q) k d).to) node_told_is in
        subst (λ q. Copying below n q b m3 new (k + 1)) (sym node_told_is)
        (copying_more below n prefix_told links_told b m m2 m3 new child k d inner_copying inside_links (subst (SameTree (suc below) b m) one source_stays)
        (subst (λ r. IsCopy below m m2 r child) one copy) ref written)
