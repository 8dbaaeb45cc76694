-- One step of a key's way in a tree that is changed below.
use Rattle.std.proofs.Common.{◌≡◌, ◌∙◌, ℕ, suc, ◌+◌, ◌*◌, ◌-◌, ◌<◌, ◌≤◌, false, List, [], ◌∷◌, ◌++◌, length, drop, map, Some, IsSome, unwrap_or, cond, refl, sym, ap, subst, arith, length-append}
use Rattle.std.proofs.lemmas.List.{append-nil}
use Rattle.std.specs.Ordering.{is_lt, is_gt}
use Rattle.std.proofs.lemmas.Bool.{cond-true, cond-false}
use Rattle.blocks.specs.declared.BlockRef.{BlockRef}
use Rattle.blocks.specs.Blocks.{Blocks, ref_eq, times, IsOut, Changes, Owned, with_block, bytes_at, overwritten}
use Rattle.blocks.proofs.Refs.{ref_eq_refl, with_block_same, with_block_other}
use Rattle.blocks.proofs.Change.{one, live_once, owned_others, counts_written, changes_counted}
use Rattle.rax_packed.specs.Nodes.{Link, Leaf, Inner, HoldsNode, IsRef, IsNode, node_of, ref_bytes}
use Rattle.rax_packed.specs.Trees.{Entry, under, mark_under, first_key, entries, refs, marks, IsTree, entries_at, marks_at, refs_at, IsTreeAt, Becomes}
use Rattle.rax_packed.specs.Ways.{LeadsTo, IsInnerBytes, prefix_in, links_in}
use Rattle.rax_packed.specs.Packed.{order, with_entry, without}
use Rattle.rax_packed.proofs.Entries.{below_links, with_entry_link, without_link}
use Rattle.rax_packed.proofs.Frames.{SameLevels, same_levels, refs_below, marks_below, LeafAt, inner_node, inner_entries, inner_refs, leaf_at, leaf_tree, leaf_entries, leaf_refs, leaf_node}
use Rattle.rax_packed.proofs.Grafts.{three_refs, times_owned_by, owned_by, IsGraft, Grafted, grafted}
use Rattle.rax_packed.proofs.Keys.{order_same}
use Rattle.rax_packed.proofs.Links.{inner_relinked, revalued_bytes, relinked_bytes}
use Rattle.rax_packed.proofs.Spellings.{node_told}
use Rattle.rax_packed.proofs.Looks.{Split, Named, link_split, leads_at, link_below, rest_is, shorter, all_middle, node_read, tree_node}

-- the list of one link
single : List Link → BlockRef → ℕ → List Link
single rest to edge = (record { edge = edge; to = to }) ∷ []

module _ (b : Blocks) (at to : BlockRef) (bytes key : List ℕ) (place from : ℕ) (t : IsTreeAt (length key) b at) (read : b at ≡ Some bytes) (leads : LeadsTo (node_of bytes) key place from to) where
  -- the length of the key
  n : ℕ
  n = length key

  -- the key goes on by the link
  way : LeadsTo (node_of bytes) key place from to
  way = leads

  -- the parts of the node and of the key at the link
  pub split : Split b at key place from to (length key) (length key)
  split = link_split (length key) (length key) b at to key place from t (leads_at b at bytes key t read place from to leads)

  -- the rest of the key is shorter than the key
  pub less_left : length (drop from key) < length key
  less_left = shorter (node_of bytes) to key place from (length key) refl leads

  -- the rest of the key is shorter than the key by the node's prefix and one edge
  pub left_is : length (drop from key) ≡ length key - suc (length split.prefix)
  left_is =
      ap length (rest_is split.prefix split.below key split.edge from split.key_is split.begins) ∙ omega (arith, ap length split.key_is, length-append split.prefix (split.edge ∷ split.below))

  -- the rest of the key is what follows the link's edge
  pub below_is : drop from key ≡ split.below
  below_is = rest_is split.prefix split.below key split.edge from split.key_is split.begins

  -- the link names a tree, whose keys are as long as the key's rest
  pub child : Named b to (length key) (length (drop from key))
  child = link_below b at bytes key t read place from to leads

  -- what the node owns: its block, and the trees of its links
  pub owns_are : refs_at (length key) b at ≡ owned_by at (refs_below (length key) b split.before) (refs_below (length key) b ((record { edge = split.edge; to = to }) ∷ []))
      (refs_below (length key) b split.after)
  owns_are =
      let links = split.before ++ (record { edge = split.edge; to = to }) ∷ split.after in
      inner_refs (length key) b at split.prefix links (inner_node (length key) (length key) b at split.prefix links split.node)
      ∙ three_refs (length key) b at split.before ((record { edge = split.edge; to = to }) ∷ []) split.after

  -- the tree's references are counted at the node, before the link, below it, and after it
  pub times_owns : (r : BlockRef) → times r (refs_at (length key) b at) ≡ one r at +
      (times r (refs_below (length key) b split.before) + (times r (refs_at (length (drop from key)) b to) + times r (refs_below (length key) b split.after)))
  times_owns r =
      let middle : times r (refs_below (length key) b ((record { edge = split.edge; to = to }) ∷ [])) ≡ times r (refs_at (length (drop from key)) b to) =
      ap (times r) (append-nil (refs (length key) b to) ∙ sym child.refs_are) in
      ap (times r) owns_are ∙ times_owned_by r at (refs_below (length key) b split.before) (refs_below (length key) b ((record { edge = split.edge; to = to }) ∷ []))
      (refs_below (length key) b split.after)
      ∙ ap (λ m. one r at + (times r (refs_below (length key) b split.before) + (m + times r (refs_below (length key) b split.after)))) middle

  -- where the tree's references are owned, so are those of the tree below the link
  pub own_below : Owned (refs_at (length key) b at) b → Owned (refs_at (length (drop from key)) b to) b
  own_below own r = omega (arith, own r, times_owns r)

  -- the node's own reference isn't one of the tree below the link
  pub out_below : Owned (refs_at (length key) b at) b → IsOut at (refs_at (length (drop from key)) b to)
  out_below own =
      let here : one at at ≡ 1 = cond-true _ _ _ (ref_eq_refl at) in
      omega (arith, own at, times_owns at, here, live_once b at)

  -- the block is as it was where only the tree below has changed
  pub kept_block : (mid : Blocks) (news : List BlockRef) → Owned (refs_at (length key) b at) b → Changes b mid (refs_at (length (drop from key)) b to) news → mid at ≡ b at
  kept_block mid news own change =
      let here : one at at ≡ 1 = cond-true _ _ _ (ref_eq_refl at) in
      owned_others b mid (refs_at (length (drop from key)) b to) news (refs_at (length key) b at) own change at (omega (arith, times_owns at, here)) (out_below own)

  -- the tree below has become another, and the node names it
  module _ (mid later : Blocks) (new : BlockRef) (es : List Entry) (own : Owned (refs_at (length key) b at) b) (below : Becomes (length (drop from key)) b mid to new es)
      (now : List ℕ) (block : later at ≡ Some now) (holds : HoldsNode now (Inner split.prefix (split.before ++ (record { edge = split.edge; to = new }) ∷ split.after))) (ref : IsRef new)
      (others : (r : BlockRef) → ref_eq r at ≡ false → later r ≡ mid r) where
    -- the tree that the link names now is the same with as many levels as the key has bytes
    lifted : SameLevels (suc (length (drop from key))) (length key) (length (drop from key)) mid new
    lifted = same_levels (suc (length (drop from key))) (length key) (length (drop from key)) mid new less_left below.tree

    -- the node's link has changed from the old tree to the new one, and the node's block tells it now
    graft : IsGraft (length key) (length key) b mid later at split.prefix split.before ((record { edge = split.edge; to = to }) ∷ []) ((record { edge = split.edge; to = new }) ∷ []) split.after
    graft = record {
      node = split.node;
      own = own;
      below = subst (λ xs. Changes b mid xs (refs (length key) mid new ++ [])) (child.refs_are ∙ sym (append-nil (refs (length key) b to)))
          (subst (Changes b mid (refs_at (length (drop from key)) b to)) (sym lifted.refs_are ∙ sym (append-nil (refs (length key) mid new))) below.changes);
      trees = (subst (λ m. IsTree (length key) m mid new) left_is lifted.tree, tt);
      bytes = now;
      block = block;
      holds = holds;
      inner = inner_relinked (length key) split.prefix split.before split.after split.edge to new ref split.node.inner;
      others = others;
    }

    -- the node is a tree whose entries and marks are the new tree's at the link and as they were beside it
    done : Grafted (length key) (length key) b mid later at split.prefix split.before ((record { edge = split.edge; to = new }) ∷ []) split.after
    done = grafted (length key) (length key) b mid later at split.prefix split.before ((record { edge = split.edge; to = to }) ∷ []) ((record { edge = split.edge; to = new }) ∷ []) split.after graft

    -- a tree of keys of the same length stands at the node's reference afterwards
    pub step_tree : IsTreeAt (length key) later at
    step_tree = done.tree

    -- the tree's references have become those that it has now, and no other block has changed
    pub step_changes : Changes b later (refs_at (length key) b at) (refs_at (length key) later at)
    step_changes = done.changes

    -- the entries below the link are the new tree's, between those before and after it as they were
    pub step_entries : entries_at (length key) later at ≡ below_links split.prefix (entries (length key) b) split.before
        ++ (map (under (split.prefix ++ split.edge ∷ [])) es ++ below_links split.prefix (entries (length key) b) split.after)
    step_entries =
        done.entries_are ∙ ap (λ xs. below_links split.prefix (entries (length key) b) split.before ++ (xs ++ below_links split.prefix (entries (length key) b) split.after))
        (append-nil (map (under (split.prefix ++ split.edge ∷ [])) (entries (length key) mid new)) ∙ ap (map (under (split.prefix ++ split.edge ∷ []))) (lifted.entries_are ∙ below.entries_are))

    -- the marks are the node's own, and those of the new tree between the ones before and after it as they were
    pub step_marks : marks_at (length key) later at ≡ (record { least = first_key (entries_at (length key) later at); at = at })
        ∷
        (marks_below split.prefix (marks (length key) b) split.before
        ++ (map (mark_under (split.prefix ++ split.edge ∷ [])) (marks_at (length (drop from key)) mid new) ++ marks_below split.prefix (marks (length key) b) split.after))
    step_marks =
        done.marks_are ∙ ap
        (λ xs. (record { least = first_key (entries_at (length key) later at); at = at })
        ∷ (marks_below split.prefix (marks (length key) b) split.before ++ (xs ++ marks_below split.prefix (marks (length key) b) split.after)))
        (append-nil (map (mark_under (split.prefix ++ split.edge ∷ [])) (marks (length key) mid new)) ∙ ap (map (mark_under (split.prefix ++ split.edge ∷ []))) lifted.marks_are)

  -- the entries of the tree are those below the node's links
  pub old_entries : entries_at (length key) b at ≡ below_links split.prefix (entries (length key) b) (split.before ++ (record { edge = split.edge; to = to }) ∷ split.after)
  old_entries =
      let links = split.before ++ (record { edge = split.edge; to = to }) ∷ split.after in
      inner_entries (length key) b at split.prefix links (inner_node (length key) (length key) b at split.prefix links split.node)

  -- the entries with a value at the key have it at the key's rest among those below the link
  pub step_with : (value : BlockRef) → with_entry (entries_at (length key) b at) key value ≡ below_links split.prefix (entries (length key) b) split.before
      ++
      (map (under (split.prefix ++ split.edge ∷ [])) (with_entry (entries_at (length (drop from key)) b to) (drop from key) value)
      ++ below_links split.prefix (entries (length key) b) split.after)
  step_with value =
      ap (λ es. with_entry es key value) old_entries
      ∙ ap (λ k. with_entry (below_links split.prefix (entries (length key) b) (split.before ++ (record { edge = split.edge; to = to }) ∷ split.after)) k value) split.key_is
      ∙ with_entry_link split.prefix split.below (entries (length key) b) split.before split.after (record { edge = split.edge; to = to }) split.less split.more value
      ∙ ap (λ es. below_links split.prefix (entries (length key) b) split.before ++ (map (under (split.prefix ++ split.edge ∷ [])) es ++ below_links split.prefix (entries (length key) b) split.after))
      (ap (λ es. with_entry es split.below value) (sym child.entries_are) ∙ ap (λ k. with_entry (entries_at (length (drop from key)) b to) k value) (sym below_is))

  -- the entries without the key are those without the key's rest below the link, and all others
  pub step_without : without (entries_at (length key) b at) key ≡ below_links split.prefix (entries (length key) b) split.before
      ++
      (map (under (split.prefix ++ split.edge ∷ [])) (without (entries_at (length (drop from key)) b to) (drop from key)) ++ below_links split.prefix (entries (length key) b) split.after)
  step_without =
      ap (λ es. without es key) old_entries
      ∙ ap (λ k. without (below_links split.prefix (entries (length key) b) (split.before ++ (record { edge = split.edge; to = to }) ∷ split.after)) k) split.key_is
      ∙ without_link split.prefix split.below (entries (length key) b) split.before split.after (record { edge = split.edge; to = to }) split.less split.more
      ∙ ap (λ es. below_links split.prefix (entries (length key) b) split.before ++ (map (under (split.prefix ++ split.edge ∷ [])) es ++ below_links split.prefix (entries (length key) b) split.after))
      (ap (λ es. without es split.below) (sym child.entries_are) ∙ ap (λ k. without (entries_at (length (drop from key)) b to) k) (sym below_is))

  -- the link's reference is one that code can hold
  pub ref_to : IsRef to
  ref_to = all_middle (λ l. IsRef l.to) split.before split.after (record { edge = split.edge; to = to }) split.node.inner.refs

  -- where the tree below has come to hold the value under the same reference, so has the tree
  pub set_link : (mid : Blocks) (value : BlockRef) → Owned (refs_at (length key) b at) b
      → Becomes (length (drop from key)) b mid to to (with_entry (entries_at (length (drop from key)) b to) (drop from key) value)
      → Becomes (length key) b mid at at (with_entry (entries_at (length key) b at) key value)
  set_link mid value own below =
      let es = with_entry (entries_at (length (drop from key)) b to) (drop from key) value in
      let block : mid at ≡ Some split.node.bytes = kept_block mid (refs_at (length (drop from key)) mid to) own below.changes ∙ split.node.block in
      record {
        tree = step_tree mid mid to es own below split.node.bytes block split.node.holds ref_to (λ r h. refl);
        entries_are = step_entries mid mid to es own below split.node.bytes block split.node.holds ref_to (λ r h. refl) ∙ sym (step_with value);
        changes = step_changes mid mid to es own below split.node.bytes block split.node.holds ref_to (λ r h. refl);
      }

-- a leaf's value written anew
pub set_leaf : (b after : Blocks) (at old value : BlockRef) (bytes key : List ℕ) → IsTreeAt (length key) b at → Owned (refs_at (length key) b at) b → b at ≡ Some bytes
    → node_of bytes ≡ Leaf key old → IsRef value
    → after ≡ with_block b at (Some (overwritten (bytes_at b at) (2 + length key) (ref_bytes value))) → Becomes (length key) b after at at (with_entry (entries_at (length key) b at) key value)
unfolding with_entry
set_leaf b after at old value bytes key t own read is fits written =
    let node = node_read b at bytes read ∙ is in
    let leaf = leaf_at (length key) (length key) b at key old t node in
    let stood : bytes_at b at ≡ leaf.bytes = ap (λ o. unwrap_or o []) leaf.block in
    let now : LeafAt (length key) after at key value = record {
      bytes = overwritten leaf.bytes (2 + length key) (ref_bytes value);
      block = ap (λ m. m at) written ∙ with_block_same b at (Some (overwritten (bytes_at b at) (2 + length key) (ref_bytes value)))
          ∙ ap (λ xs. Some (overwritten xs (2 + length key) (ref_bytes value))) stood;
      holds = revalued_bytes leaf.bytes key old value leaf.holds;
      fits = (refl, fits);
    } in
    let new_node = leaf_node (length key) (length key) after at key value now in
    let old_refs = leaf_refs (length key) b at key old node in
    let new_refs = leaf_refs (length key) after at key value new_node in
    let es : entries_at (length key) b at ≡ (record { key = key; value = old }) ∷ [] = leaf_entries (length key) b at key old node in
    let same = order_same key in
    let here : one at at ≡ 1 = cond-true _ _ _ (ref_eq_refl at) in
    let alone : Owned (at ∷ []) b = subst (λ xs. Owned xs b) old_refs own in
    record {
      tree = leaf_tree (length key) (length key) after at key value now;
      entries_are = leaf_entries (length key) after at key value new_node
          ∙ sym (ap (λ xs. with_entry xs key value) es
          ∙ ap (λ xs. xs ++ (record { key = key; value = value }) ∷ cond (is_gt (order key key)) ((record { key = key; value = old }) ∷ []) []) (cond-false _ _ _ (ap is_lt same))
          ∙ ap (λ xs. (record { key = key; value = value }) ∷ xs) (cond-false _ _ _ (ap is_gt same)));
      changes = subst (λ xs. Changes b after xs (refs_at (length key) after at)) (sym old_refs) (subst (Changes b after (at ∷ [])) (sym new_refs)
          (changes_counted b after (at ∷ []) (at ∷ []) alone
          (counts_written b after at (overwritten (bytes_at b at) (2 + length key) (ref_bytes value)) (at ∷ []) (at ∷ []) (subst (λ o. IsSome o) (sym leaf.block) refl) written
          (omega (arith, here)) (λ r. refl))));
    }

-- the node's block after a link of a key's way was written anew
pub record LinkWritten (mid later : Blocks) (at new : BlockRef) (prefix : List ℕ) (before after : List Link) (edge : ℕ) : Type 0 where
  pub now : List ℕ
  pub block : later at ≡ Some now
  pub holds : HoldsNode now (Inner prefix (before ++ (record { edge = edge; to = new }) ∷ after))
  pub others : (r : BlockRef) → ref_eq r at ≡ false → later r ≡ mid r

module _ (b mid later : Blocks) (at to new : BlockRef) (bytes key : List ℕ) (place from : ℕ) (es : List Entry) (t : IsTreeAt (length key) b at) (read : b at ≡ Some bytes)
    (leads : LeadsTo (node_of bytes) key place from to) (own : Owned (refs_at (length key) b at) b)
    (below : Becomes (length (drop from key)) b mid to new es) (ref : IsRef new)
    (written : (offset : ℕ) → offset ≡ 4 + length (prefix_in (node_of (bytes_at mid at))) + length (links_in (node_of (bytes_at mid at))) + 12 * place
    → later ≡ with_block mid at (Some (overwritten (bytes_at mid at) offset (ref_bytes new)))) where
  -- the parts of the node and of the key at the link
  abbrev pub s : Split b at key place from to (length key) (length key)
  s = split b at to bytes key place from t read leads

  -- the node's block names the new tree by the key's link, and each other block is as before the writing
  link_written : LinkWritten mid later at new s.prefix s.before s.after s.edge
  link_written =
      let links = s.before ++ (record { edge = s.edge; to = to }) ∷ s.after in
      let same : mid at ≡ b at = kept_block b at to bytes key place from t read leads mid (refs_at (length (drop from key)) mid new) own below.changes in
      let stood : bytes_at mid at ≡ s.node.bytes = ap (λ o. unwrap_or o []) (same ∙ s.node.block) in
      let node : node_of (bytes_at mid at) ≡ Inner s.prefix links = ap node_of stood ∙ node_told (length key) s.node.bytes (Inner s.prefix links) s.node.holds s.node.inner in
      let offset = 4 + length s.prefix + length links + 12 * length s.before in
      let at_offset : offset ≡ 4 + length (prefix_in (node_of (bytes_at mid at))) + length (links_in (node_of (bytes_at mid at))) + 12 * place =
      ap (λ n. 4 + length (prefix_in n) + length (links_in n) + 12 * length s.before) (sym node)
      ∙ ap (λ m. 4 + length (prefix_in (node_of (bytes_at mid at))) + length (links_in (node_of (bytes_at mid at))) + 12 * m) s.many in
      let is = written offset at_offset in
      record {
        now = overwritten s.node.bytes offset (ref_bytes new);
        block = ap (λ m. m at) is ∙ with_block_same mid at (Some (overwritten (bytes_at mid at) offset (ref_bytes new))) ∙ ap (λ xs. Some (overwritten xs offset (ref_bytes new))) stood;
        holds = relinked_bytes s.node.bytes s.prefix s.before s.after s.edge offset to new s.node.holds refl;
        others = λ r other. ap (λ m. m r) is ∙ with_block_other mid at r (Some (overwritten (bytes_at mid at) offset (ref_bytes new))) other;
      }

  -- after the link was written anew, a tree of keys of the same length stands at the node's reference
  pub link_tree : IsTreeAt (length key) later at
  link_tree = step_tree b at to bytes key place from t read leads mid later new es own below link_written.now link_written.block link_written.holds ref link_written.others

  -- after the link was written anew, the entries below it are the new tree's, and all others as they were
  pub link_entries : entries_at (length key) later at ≡ below_links s.prefix (entries (length key) b) s.before
      ++ (map (under (s.prefix ++ s.edge ∷ [])) es ++ below_links s.prefix (entries (length key) b) s.after)
  link_entries = step_entries b at to bytes key place from t read leads mid later new es own below link_written.now link_written.block link_written.holds ref link_written.others

  -- by the writing of the link the tree's references have become those that it has now, and no other block changed
  pub link_changes : Changes b later (refs_at (length key) b at) (refs_at (length key) later at)
  link_changes = step_changes b at to bytes key place from t read leads mid later new es own below link_written.now link_written.block link_written.holds ref link_written.others

  -- after the link was written anew, the marks below it are the new tree's, and all others below as they were
  pub link_marks : marks_at (length key) later at ≡ (record { least = first_key (entries_at (length key) later at); at = at })
      ∷
      (marks_below s.prefix (marks (length key) b) s.before ++
      (map (mark_under (s.prefix ++ s.edge ∷ [])) (marks_at (length (drop from key)) mid new) ++ marks_below s.prefix (marks (length key) b) s.after))
  link_marks = step_marks b at to bytes key place from t read leads mid later new es own below link_written.now link_written.block link_written.holds ref link_written.others

-- where the tree below holds the value at another reference, and the link names that now, the tree holds the value
pub add_link : (b mid later : Blocks) (at to new : BlockRef) (bytes key : List ℕ) (place from : ℕ) (value : BlockRef) (t : IsTreeAt (length key) b at) (read : b at ≡ Some bytes)
    (leads : LeadsTo (node_of bytes) key place from to) → Owned (refs_at (length key) b at) b
    → Becomes (length (drop from key)) b mid to new (with_entry (entries_at (length (drop from key)) b to) (drop from key) value) → IsRef new
    →
    ((offset : ℕ) → offset ≡ 4 + length (prefix_in (node_of (bytes_at mid at))) + length (links_in (node_of (bytes_at mid at))) + 12 * place
    → later ≡ with_block mid at (Some (overwritten (bytes_at mid at) offset (ref_bytes new))))
    → Becomes (length key) b later at at (with_entry (entries_at (length key) b at) key value)
add_link b mid later at to new bytes key place from value t read leads own below ref written =
    let es = with_entry (entries_at (length (drop from key)) b to) (drop from key) value in
    record {
      tree = link_tree b mid later at to new bytes key place from es t read leads own below ref written;
      entries_are = link_entries b mid later at to new bytes key place from es t read leads own below ref written ∙ sym (step_with b at to bytes key place from t read leads value);
      changes = link_changes b mid later at to new bytes key place from es t read leads own below ref written;
    }

-- what code asks of a link that it writes
pub record LinkReady (mid : Blocks) (at : BlockRef) (place : ℕ) : Type 0 where
  pub live : IsSome (mid at)
  pub inner : IsInnerBytes (bytes_at mid at)
  pub within : place < length (links_in (node_of (bytes_at mid at)))

-- while the node's block is as it was, the link of a key's way may be written anew
pub link_ready : (b mid : Blocks) (at to : BlockRef) (bytes key : List ℕ) (place from : ℕ) (t : IsTreeAt (length key) b at) (read : b at ≡ Some bytes)
    (leads : LeadsTo (node_of bytes) key place from to) → length key ≤ 16 → mid at ≡ b at → LinkReady mid at place
link_ready b mid at to bytes key place from t read leads few same =
    let s = split b at to bytes key place from t read leads in
    let links = s.before ++ (record { edge = s.edge; to = to }) ∷ s.after in
    let stood : bytes_at mid at ≡ s.node.bytes = ap (λ o. unwrap_or o []) (same ∙ s.node.block) in
    let node : node_of (bytes_at mid at) ≡ Inner s.prefix links = ap node_of stood ∙ node_told (length key) s.node.bytes (Inner s.prefix links) s.node.holds s.node.inner in
    record {
      live = subst (λ o. IsSome o) (sym (same ∙ s.node.block)) refl;
      inner = record {
        rest = length key;
        few = few;
        node = subst (IsNode (length key)) (sym stood) (tree_node (suc (length key)) (length key) b at s.node.bytes t s.node.block);
        prefix =
            s.prefix;
        links = links;
        is = node;
      };
      within = omega (arith, ap (λ n. length (links_in n)) node, s.many, length-append s.before ((record { edge = s.edge; to = to }) ∷ s.after));
    }
