-- What is left of a tree where the nodes of a key's way have moved.
use Rattle.std.proofs.Common.{◌≡◌, ◌≢◌, ◌∙◌, ℕ, ◌+◌, ◌*◌, ◌≤◌, Bool, true, false, cond, List, [], ◌∷◌, ◌++◌, length, drop, map, Some, unwrap_or, refl, sym, ap, subst, inl, inr, arith}
use Rattle.std.proofs.lemmas.Bool.{cases_eq, cond-true}
use Rattle.std.specs.Ordering.{is_eq}
use Rattle.std.proofs.lemmas.List.Concat.{flat_map-append}
use Rattle.blocks.specs.declared.BlockRef.{BlockRef}
use Rattle.blocks.specs.Blocks.{Blocks, ref_eq, times, IsIn, Changes, Owned, with_block, bytes_at, overwritten}
use Rattle.blocks.specs.Slabs.{Heap, wants, Calmer}
use Rattle.blocks.proofs.Refs.{ref_eq_refl}
use Rattle.blocks.proofs.Change.{one, live_once, owned_others, changes_beside, changes_then, changes_owned}
use Rattle.rax_packed.specs.Nodes.{Leaf, IsRef, ref_bytes, node_of}
use Rattle.rax_packed.specs.Trees.{Entry, Mark, node_at, under, mark_under, entries_in, entries, refs_in, refs, first_key, marks_in, marks, Below, IsTree, entries_at, refs_at, marks_at}
use Rattle.rax_packed.specs.Trees.{IsTreeAt, Becomes}
use Rattle.rax_packed.specs.Ways.{LeadsTo, prefix_in, links_in}
use Rattle.rax_packed.specs.Paths.{is_first, moved, ArePassed}
use Rattle.rax_packed.proofs.Entries.{below_links, key_under}
use Rattle.rax_packed.proofs.Frames.{marks_below, same_tree, in_node, inner_marks, leaf_marks}
use Rattle.rax_packed.proofs.Keys.{order_same}
use Rattle.rax_packed.proofs.Looks.{Split, Named}
use Rattle.rax_packed.proofs.Paths.{AreOthers, other_links, less_apart, more_apart, least_under, node_is, entries_below, first_zero, first_other}
use Rattle.rax_packed.proofs.Steps.{split, below_is, child, link_tree, link_entries, link_changes, link_marks}

-- a node that may move is one more at most
pub one_most : (stays : Bool) (count : ℕ) → cond stays 0 1 + count ≤ count + 1
one_most true count = omega arith
one_most false count = omega arith

-- the block of a tree's top node moved
module _ (rest : ℕ) (m n : Blocks) (at new : BlockRef) (t : IsTreeAt rest m at) (own : Owned (refs_at rest m at) m) (bytes : n new ≡ m at) (p : Changes m n (at ∷ []) (new ∷ [])) where
  -- the references of the nodes below the top one
  abbrev below : List BlockRef
  below = refs_in (refs rest m) (node_at m at)

  -- the references of the tree are the top node's and those below it
  top : refs_at rest m at ≡ at ∷ below
  unfolding refs
  top = refl

  -- the blocks of the nodes below the top one are as they were
  kept : (r : BlockRef) → IsIn r below → n r ≡ m r
  kept r is = let all : times r (refs_at rest m at) ≡ one r at + times r below = ap (times r) top in
      owned_others m n (at ∷ []) (new ∷ []) (refs_at rest m at) own p r (omega (arith, all, is)) (omega (arith, own r, all, live_once m r, is))

  -- the new reference has the node that the old one had
  node : node_at n new ≡ node_at m at
  node = ap (λ o. node_of (unwrap_or o [])) bytes

  -- below the top node, entries, references, marks and trees are the same in both stores
  parts : (entries_in (entries rest n) (node_at m at) ≡ entries_in (entries rest m) (node_at m at)) × (refs_in (refs rest n) (node_at m at) ≡ refs_in (refs rest m) (node_at m at))
      × (marks_in (marks rest n) (node_at m at) ≡ marks_in (marks rest m) (node_at m at))
      × ((left : ℕ) → Below (λ l to. IsTree rest l m to) left (node_at m at) → Below (λ l to. IsTree rest l n to) left (node_at m at))
  parts = in_node rest m n (node_at m at) (λ to k. same_tree rest m n to k) kept

  -- the top node is the same node at its new reference
  pub moved_node : node_at n new ≡ node_at m at
  moved_node = node

  -- the tree has the same entries at its new reference
  pub moved_entries : entries_at rest n new ≡ entries_at rest m at
  unfolding entries
  moved_entries = ap (entries_in (entries rest n)) node ∙ parts.0

  -- the references of the moved tree are the new one and those below the top node as before
  moved_refs : refs_at rest n new ≡ new ∷ below
  unfolding refs
  moved_refs = ap (λ k. new ∷ refs_in (refs rest n) k) node ∙ ap (λ xs. new ∷ xs) parts.1

  -- the marks of the moved tree are those that it had, but that the top one has the new reference
  pub moved_marks : marks_at rest n new ≡ (record { least = first_key (entries_at rest m at); at = new }) ∷ marks_in (marks rest m) (node_at m at)
  unfolding marks
  moved_marks =
      ap (λ es. (record { least = first_key es; at = new }) ∷ marks_in (marks rest n) (node_at n new)) moved_entries
      ∙ ap (λ ms. (record { least = first_key (entries_at rest m at); at = new }) ∷ ms) (ap (marks_in (marks rest n)) node ∙ parts.2)

  -- a tree stands at the new reference
  pub moved_tree : IsTreeAt rest n new
  unfolding IsTree
  moved_tree =
      let told : node_at m at ≡ node_of t.0 = ap (λ o. node_of (unwrap_or o [])) t.1 in
      (t.0, bytes ∙ t.1, t.2, subst (Below (λ left to. IsTree rest left n to) rest) told (parts.3 rest (subst (Below (λ left to. IsTree rest left m to) rest) (sym told) t.3)))

  -- the references of the tree have become those of the moved tree, and no other block has changed
  pub moved_changes : Changes m n (refs_at rest m at) (refs_at rest n new)
  moved_changes =
      subst (Changes m n (refs_at rest m at)) (sym moved_refs) (subst (λ xs. Changes m n xs (new ∷ below)) (sym top)
      (changes_beside m n (at ∷ []) (new ∷ []) (at ∷ below) (new ∷ below) p (subst (λ xs. Owned xs m) top own) (λ r. times r below) (λ r. omega arith) (λ r. omega arith)))

  -- the tree has become one of the same entries at its new reference
  pub moved_becomes : Becomes rest m n at new (entries_at rest m at)
  moved_becomes = record { tree = moved_tree; entries_are = moved_entries; changes = moved_changes }

-- where the nodes of two pairs of lists were passed, so were those of the joined lists
pub passed_append : (h k : Heap) (key : List ℕ) (xs us ys vs : List Mark) → ArePassed h k key xs us → ArePassed h k key ys vs → ArePassed h k key (xs ++ ys) (us ++ vs)
passed_append h k key [] [] ys vs p q = q
passed_append h k key [] (u ∷ us) ys vs p q = absurd p
passed_append h k key (x ∷ xs) [] ys vs p q = absurd p
passed_append h k key (x ∷ xs) (u ∷ us) ys vs p q = (p.0, passed_append h k key xs us ys vs p.1 q)

-- nodes that were passed are so with more bytes before the key and before each least key
pub passed_under : (h k : Heap) (begin key : List ℕ) (xs us : List Mark) → ArePassed h k key xs us → ArePassed h k (begin ++ key) (map (mark_under begin) xs) (map (mark_under begin) us)
passed_under h k begin key [] [] p = tt
passed_under h k begin key [] (u ∷ us) p = absurd p
passed_under h k begin key (x ∷ xs) [] p = absurd p
passed_under h k begin key (x ∷ xs) (u ∷ us) p =
    let first = p.0 in (
      record {
        least = ap (λ l. begin ++ l) first.least;
        calm = λ e. first.calm (sym (least_under begin key x) ∙ e);
        others = λ e. first.others (sym (least_under begin key x) ∙ e);
        stays = first.stays;
      },
      passed_under h k begin key xs us p.1,
    )

-- nodes that were passed are so still where no more blocks want to move than before
pub passed_calmer : (h k l : Heap) (key : List ℕ) (xs us : List Mark) → Calmer k l → ArePassed h k key xs us → ArePassed h l key xs us
passed_calmer h k l key [] [] calmer p = tt
passed_calmer h k l key [] (u ∷ us) calmer p = absurd p
passed_calmer h k l key (x ∷ xs) [] calmer p = absurd p
passed_calmer h k l key (x ∷ xs) (u ∷ us) calmer p =
    let first = p.0 in
    (record { least = first.least; calm = λ e. calmer.calm u.at (first.calm e); others = first.others; stays = first.stays }, passed_calmer h k l key xs us calmer p.1)

-- nodes whose least key is another one are passed where they stay
pub passed_others : (h k : Heap) (key : List ℕ) (xs : List Mark) → AreOthers key xs → ArePassed h k key xs xs
passed_others h k key [] a = tt
passed_others h k key (x ∷ xs) a = (record { least = refl; calm = λ e. (let bad : true ≡ false = sym e ∙ a.0 in cc); others = λ e. refl; stays = λ e. refl }, passed_others h k key xs a.1)

-- where each node has the reference that it had, none has moved
pub moved_same : (xs : List Mark) → moved xs xs ≡ 0
moved_same [] = refl
moved_same (x ∷ xs) = let here : cond {A = ℕ} (ref_eq x.at x.at) 0 1 ≡ 0 = cond-true _ _ _ (ref_eq_refl x.at) in omega (arith, here, moved_same xs)

-- in joined lists as many nodes have moved as in both parts together
pub moved_append : (h k : Heap) (key : List ℕ) (xs us ys vs : List Mark) → ArePassed h k key xs us → moved (xs ++ ys) (us ++ vs) ≡ moved xs us + moved ys vs
moved_append h k key [] [] ys vs p = omega arith
moved_append h k key [] (u ∷ us) ys vs p = absurd p
moved_append h k key (x ∷ xs) [] ys vs p = absurd p
moved_append h k key (x ∷ xs) (u ∷ us) ys vs p = omega (arith, moved_append h k key xs us ys vs p.1)

-- with more bytes before each least key as many nodes have moved
pub moved_under : (begin : List ℕ) (xs us : List Mark) → moved (map (mark_under begin) xs) (map (mark_under begin) us) ≡ moved xs us
moved_under begin [] us = refl
moved_under begin (x ∷ xs) [] = refl
moved_under begin (x ∷ xs) (u ∷ us) = omega (arith, moved_under begin xs us)

-- a leaf passed
module _ (b n : Blocks) (at new value : BlockRef) (key : List ℕ) (t : IsTreeAt (length key) b at) (own : Owned (refs_at (length key) b at) b) (node : node_at b at ≡ Leaf key value)
    (bytes : n new ≡ b at) (p : Changes b n (at ∷ []) (new ∷ [])) where
  -- before the move, the one mark is that of the leaf at the old reference
  old_leaf : marks_at (length key) b at ≡ (record { least = key; at = at }) ∷ []
  old_leaf = leaf_marks (length key) b at key value node

  -- after the move, the one mark is that of the leaf at the new reference
  new_leaf : marks_at (length key) n new ≡ (record { least = key; at = new }) ∷ []
  new_leaf = leaf_marks (length key) n new key value (moved_node (length key) b n at new t own bytes p ∙ node)

  -- the leaf was passed where it wants no move then, and has stayed if it wanted none before
  pub leaf_passed : (h k : Heap) → wants k new ≡ false → (wants h at ≡ false → new ≡ at) → ArePassed h k key (marks_at (length key) b at) (marks_at (length key) n new)
  leaf_passed h k calm stays =
      subst (λ ms. ArePassed h k key ms (marks_at (length key) n new)) (sym old_leaf) (subst (ArePassed h k key ((record { least = key; at = at }) ∷ [])) (sym new_leaf)
      (record { least = refl; calm = λ e. calm; others = λ e. (let bad : true ≡ false = sym (ap is_eq (order_same key)) ∙ e in cc); stays = stays }, tt))

  -- one node has moved where the leaf's new reference is another one, and none where it is the same
  pub leaf_moved : moved (marks_at (length key) b at) (marks_at (length key) n new) ≡ cond (ref_eq at new) 0 1 + 0
  leaf_moved = ap (λ ms. moved ms (marks_at (length key) n new)) old_leaf ∙ ap (moved ((record { least = key; at = at }) ∷ [])) new_leaf

-- the marks behind the first
rest_of : List Mark → List Mark
rest_of [] = []
rest_of (m ∷ ms) = ms

-- an inner node passed, after those below it
module _ (b mid later n : Blocks) (at to new final : BlockRef) (bytes key : List ℕ) (place from : ℕ) (t : IsTreeAt (length key) b at) (read : b at ≡ Some bytes)
    (leads : LeadsTo (node_of bytes) key place from to) (own : Owned (refs_at (length key) b at) b)
    (below : Becomes (length (drop from key)) b mid to new (entries_at (length (drop from key)) b to)) (ref : IsRef new)
    (written : (offset : ℕ) → offset ≡ 4 + length (prefix_in (node_of (bytes_at mid at))) + length (links_in (node_of (bytes_at mid at))) + 12 * place
    → later ≡ with_block mid at (Some (overwritten (bytes_at mid at) offset (ref_bytes new))))
    (carried : n final ≡ later at) (p : Changes later n (at ∷ []) (final ∷ [])) where
  -- the parts of the node and of the key at the link
  abbrev s : Split b at key place from to (length key) (length key)
  s = split b at to bytes key place from t read leads

  -- the entries of the tree that the link names, before the moves
  abbrev es : List Entry
  es = entries_at (length (drop from key)) b to

  -- the link names a tree, whose keys are as long as the key's rest
  named : Named b to (length key) (length (drop from key))
  named = child b at to bytes key place from t read leads

  -- after the link was written anew, a tree stands at the node's reference
  relinked : IsTreeAt (length key) later at
  relinked = link_tree b mid later at to new bytes key place from es t read leads own below ref written

  -- the tree's references have become those it has after the link's writing, and no other block has changed
  changed : Changes b later (refs_at (length key) b at) (refs_at (length key) later at)
  changed = link_changes b mid later at to new bytes key place from es t read leads own below ref written

  -- after the link was written anew, the tree's references are owned
  own_later : Owned (refs_at (length key) later at) later
  own_later = changes_owned b later (refs_at (length key) b at) (refs_at (length key) later at) changed

  -- after the link was written anew, the tree has the entries that it had
  same_entries : entries_at (length key) later at ≡ entries_at (length key) b at
  same_entries =
      link_entries b mid later at to new bytes key place from es t read leads own below ref written
      ∙ sym (entries_below b at to bytes key place from t read leads
      ∙ flat_map-append (λ l. map (under (s.prefix ++ l.edge ∷ [])) (entries (length key) b l.to)) s.before ((record { edge = s.edge; to = to }) ∷ s.after)
      ∙ ap (λ xs. below_links s.prefix (entries (length key) b) s.before ++ (map (under (s.prefix ++ s.edge ∷ [])) xs ++ below_links s.prefix (entries (length key) b) s.after))
      (sym named.entries_are))

  -- after the node moved too, the tree has become one of the same entries at the node's final reference
  pub relocated : Becomes (length key) b n at final (entries_at (length key) b at)
  relocated = record {
    tree = moved_tree (length key) later n at final relinked own_later carried p;
    entries_are = moved_entries (length key) later n at final relinked own_later carried p ∙ same_entries;
    changes = changes_then b later n (refs_at (length key) b at) (refs_at (length key) later at) (refs_at (length key) n final) changed
        (moved_changes (length key) later n at final relinked own_later carried p);
  }

  -- the marks below the links before the key's
  abbrev front : List Mark
  front = marks_below s.prefix (marks (length key) b) s.before

  -- the marks below the links after the key's
  abbrev back : List Mark
  back = marks_below s.prefix (marks (length key) b) s.after

  -- the node's prefix and the edge of the key's link
  abbrev begin : List ℕ
  begin = s.prefix ++ s.edge ∷ []

  -- before the moves the marks are the node's own, and those below the key's link between those of the others
  old_marks : marks_at (length key) b at ≡ (record { least = first_key (entries_at (length key) b at); at = at }) ∷ (front ++ (map (mark_under begin) (marks_at (length (drop from key)) b to) ++ back))
  old_marks =
      inner_marks (length key) b at s.prefix (s.before ++ (record { edge = s.edge; to = to }) ∷ s.after) (node_is b at to bytes key place from t read leads)
      ∙ ap (λ ms. (record { least = first_key (entries_at (length key) b at); at = at }) ∷ ms)
      (flat_map-append (λ l. map (mark_under (s.prefix ++ l.edge ∷ [])) (marks (length key) b l.to)) s.before ((record { edge = s.edge; to = to }) ∷ s.after)
      ∙ ap (λ xs. front ++ (map (mark_under begin) xs ++ back)) (sym named.marks_are))

  -- after the link was written, the marks below the node are the moved tree's between those below the other links
  tail : marks_in (marks (length key) later) (node_at later at) ≡ front ++ (map (mark_under begin) (marks_at (length (drop from key)) mid new) ++ back)
  unfolding marks rest_of
  tail = ap rest_of (link_marks b mid later at to new bytes key place from es t read leads own below ref written)

  -- after the moves the marks are the node's at its final reference, and the moved tree's between the others
  new_marks : marks_at (length key) n final ≡ (record { least = first_key (entries_at (length key) b at); at = final })
      ∷ (front ++ (map (mark_under begin) (marks_at (length (drop from key)) mid new) ++ back))
  new_marks =
      moved_marks (length key) later n at final relinked own_later carried p
      ∙ ap (λ xs. (record { least = first_key xs; at = final }) ∷ marks_in (marks (length key) later) (node_at later at)) same_entries
      ∙ ap (λ ms. (record { least = first_key (entries_at (length key) b at); at = final }) ∷ ms) tail

  -- the key is the node's prefix, the link's edge and the key's rest
  whole : begin ++ drop from key ≡ key
  whole = ap (λ k. begin ++ k) (below_is b at to bytes key place from t read leads) ∙ sym (s.key_is ∙ key_under s.prefix s.below s.edge)

  -- the key is the least of none of the marks before its link
  front_others : AreOthers key front
  front_others = subst (λ k. AreOthers k front) (sym s.key_is) (other_links s.prefix s.below s.edge (marks (length key) b) s.before (less_apart s.edge s.before s.less))

  -- the key is the least of none of the marks after its link
  back_others : AreOthers key back
  back_others = subst (λ k. AreOthers k back) (sym s.key_is) (other_links s.prefix s.below s.edge (marks (length key) b) s.after (more_apart s.edge s.after s.more))

  module _ (h k l : Heap) (passed : ArePassed h k (drop from key) (marks_at (length (drop from key)) b to) (marks_at (length (drop from key)) mid new)) where
    -- as many nodes have moved as below the link, and one more where the node's reference is another one
    pub relocated_moved : moved (marks_at (length key) b at) (marks_at (length key) n final) ≡ cond (ref_eq at final) 0 1 + moved (marks_at (length (drop from key)) b to)
        (marks_at (length (drop from key)) mid new)
    relocated_moved =
        let xs = map (mark_under begin) (marks_at (length (drop from key)) b to) in
        let us = map (mark_under begin) (marks_at (length (drop from key)) mid new) in
        let under_key : ArePassed h k (begin ++ drop from key) xs us =
        passed_under h k begin (drop from key) (marks_at (length (drop from key)) b to) (marks_at (length (drop from key)) mid new) passed in
        let inside : moved (front ++ (xs ++ back)) (front ++ (us ++ back)) ≡ moved (marks_at (length (drop from key)) b to) (marks_at (length (drop from key)) mid new) =
        omega (
          arith,
          moved_append h k key front front (xs ++ back) (us ++ back) (passed_others h k key front front_others),
          moved_same front,
          moved_append h k (begin ++ drop from key) xs us
              back back under_key,
          moved_same back,
          moved_under begin (marks_at (length (drop from key)) b to) (marks_at (length (drop from key)) mid new),
        ) in
        ap (λ ms. moved ms (marks_at (length key) n final)) old_marks
        ∙ ap (moved ((record { least = first_key (entries_at (length key) b at); at = at }) ∷ (front ++ (xs ++ back)))) new_marks
        ∙ ap (λ m. cond (ref_eq at final) 0 1 + m) inside

    -- where the nodes below the link were passed and then the node, all nodes of the tree were passed
    pub relocated_passed : (least : Bool) → least ≡ is_first (entries_at (length key) b at) key → Calmer h k → Calmer k l → (least ≡ true → wants l final ≡ false)
        → (least ≡ false → final ≡ at) → (wants k at ≡ false → final ≡ at) → ArePassed h l key (marks_at (length key) b at) (marks_at (length key) n final)
    relocated_passed least is before after calm others stays =
        let xs = map (mark_under begin) (marks_at (length (drop from key)) b to) in
        let us = map (mark_under begin) (marks_at (length (drop from key)) mid new) in
        let under_key : ArePassed h k (begin ++ drop from key) xs us =
        passed_under h k begin (drop from key) (marks_at (length (drop from key)) b to) (marks_at (length (drop from key)) mid new) passed in
        let middle : ArePassed h l key xs us = passed_calmer h k l key xs us after (subst (λ q. ArePassed h k q xs us) whole under_key) in
        let all : ArePassed h l key (front ++ (xs ++ back)) (front ++ (us ++ back)) =
        passed_append h l key front front (xs ++ back) (us ++ back) (passed_others h l key front front_others)
        (passed_append h l key xs us back back middle (passed_others h l key back back_others)) in
        subst (λ ms. ArePassed h l key ms (marks_at (length key) n final)) (sym old_marks)
        (subst (ArePassed h l key ((record { least = first_key (entries_at (length key) b at); at = at }) ∷ (front ++ (xs ++ back)))) (sym new_marks)
        (record { least = refl; calm = λ e. calm (is ∙ e); others = λ e. others (is ∙ e); stays = λ e. stays (before.calm at e) }, all))

  -- whether the key is the least below the node
  pub relocated_least : (low least : Bool) → low ≡ is_first (entries_at (length (drop from key)) b to) (drop from key) → (place ≡ 0 → least ≡ low) → (place ≢ 0 → least ≡ false)
      → least ≡ is_first (entries_at (length key) b at) key
  relocated_least low least is zeroth other = elim (cases_eq place 0) [
    | inl here ↦ zeroth here ∙ is ∙ sym (first_zero b at to bytes key place from t read leads here)
    | inr there ↦ other there ∙ sym (first_other b at to bytes key place from t read leads there)
  ]
