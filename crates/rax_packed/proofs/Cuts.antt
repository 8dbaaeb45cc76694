-- A tree without a key.
use Rattle.std.proofs.Common.{◌≡◌, ◌∙◌, Bool, true, false, not, ℕ, suc, ◌+◌, ◌*◌, ◌-◌, ◌<◌, ◌≤◌, List, [], ◌∷◌, ◌++◌, length, drop, take, replicate, map, Option, Some, None, IsSome}
use Rattle.std.proofs.Common.{unwrap_or, refl, sym, ap, subst, arith, length-append, append_assoc}
use Rattle.std.proofs.lemmas.List.{append-nil, take_at, drop_at, length-map, length-drop, length-take-le, replicate-append-replicate}
use Rattle.std.specs.List.{remove}
use Rattle.std.specs.Ordering.{is_ne}
use Rattle.std.proofs.lemmas.Bool.{cond-false}
use Rattle.byteorder.specs.Endian.{little_bytes}
use Rattle.byteorder.specs.Numbers.{length-bytes_low_first}
use Rattle.blocks.specs.declared.BlockRef.{BlockRef}
use Rattle.blocks.specs.Blocks.{Blocks, times, Changes, Owned, with_block, bytes_at, overwritten}
use Rattle.blocks.proofs.Refs.{with_block_same, with_block_other}
use Rattle.blocks.proofs.Change.{one, counts_ended, changes_counted, counts_then, counts_beside, counts_changed}
use Rattle.rax_packed.specs.Nodes.{Link, Leaf, Inner, HoldsNode, IsRef, edges_of, refs_bytes, spelled, node_of}
use Rattle.rax_packed.specs.Trees.{under, entries, refs, entries_at, refs_at, IsTreeAt, Becomes}
use Rattle.rax_packed.specs.Ways.{LeadsTo, IsInnerBytes, prefix_in, links_in}
use Rattle.rax_packed.proofs.Choices.{inner_told}
use Rattle.rax_packed.specs.Packed.{without}
use Rattle.rax_packed.proofs.Keys.{order_same}
use Rattle.rax_packed.proofs.Entries.{below_links}
use Rattle.rax_packed.proofs.Frames.{refs_below, leaf_entries, leaf_refs}
use Rattle.rax_packed.proofs.Grafts.{IsGraft, grafted}
use Rattle.rax_packed.proofs.Links.{inner_skip}
use Rattle.rax_packed.proofs.Looks.{node_read, tree_live, all_middle}
use Rattle.rax_packed.proofs.Spellings.{node_told, length_refs_bytes}
use Rattle.rax_packed.proofs.Steps.{split, child, kept_block, step_tree, step_entries, step_changes, step_without, times_owns}

-- a leaf is all of its tree
pub cut_leaf : (b : Blocks) (at value : BlockRef) (bytes key : List ℕ) → b at ≡ Some bytes → node_of bytes ≡ Leaf key value → without (entries_at (length key) b at) key ≡ []
unfolding without
cut_leaf b at value bytes key read is =
    ap (λ es. without es key) (leaf_entries (length key) b at key value (node_read b at bytes read ∙ is)) ∙ cond-false _ _ _ (ap is_ne (order_same key))

pub cut_leaf_ended : (b after : Blocks) (at value : BlockRef) (bytes key : List ℕ) → IsTreeAt (length key) b at → Owned (refs_at (length key) b at) b → b at ≡ Some bytes
    → node_of bytes ≡ Leaf key value → after ≡ with_block b at None → Changes b after (refs_at (length key) b at) []
cut_leaf_ended b after at value bytes key t own read is ended =
    let all = leaf_refs (length key) b at key value (node_read b at bytes read ∙ is) in
    changes_counted b after (refs_at (length key) b at) [] own
    (counts_ended b after at (refs_at (length key) b at) [] (tree_live (suc (length key)) (length key) b at t) ended (λ r. omega (arith, ap (times r) all)))

-- the link at a place taken out of its list
remove_at : (before after : List Link) (link : Link) (place : ℕ) → length before ≡ place → remove (before ++ link ∷ after) place ≡ before ++ after
remove_at before after link place many =
    let longer : length (before ++ link ∷ []) ≡ suc place = length-append before (link ∷ []) ∙ omega arith in
    ap (λ xs. xs ++ drop (suc place) (before ++ link ∷ after)) (take_at before (link ∷ after) place many)
    ∙ ap (λ xs. before ++ drop (suc place) xs) (sym (append_assoc before (link ∷ []) after)) ∙ ap (λ xs. before ++ xs) (drop_at (before ++ link ∷ []) after (suc place) longer)

length_spelled : (prefix : List ℕ) (links : List Link) → length (spelled (Inner prefix links)) ≡ 4 + length prefix + 13 * length links
length_spelled prefix links =
    omega (
      arith,
      length-append prefix (little_bytes 2 (length links) ++ (edges_of links ++ refs_bytes links)),
      length-append (little_bytes 2 (length links))
          (edges_of links ++ refs_bytes links),
      length-append (edges_of links) (refs_bytes links),
      length-map links (λ l. l.edge),
      length_refs_bytes links,
      length-bytes_low_first 0 2
          (length links),
    )

-- an inner node written over with one link less
pub narrowed_bytes : (bytes prefix : List ℕ) (before after : List Link) (link : Link) → HoldsNode bytes (Inner prefix (before ++ link ∷ after))
    → HoldsNode (overwritten bytes 0 (spelled (Inner prefix (before ++ after)) ++ replicate 13 0)) (Inner prefix (before ++ after))
narrowed_bytes bytes prefix before after link holds =
    let thirteen : List ℕ = replicate 13 0 in
    let zeros : List ℕ = replicate holds.0 0 in
    let less = spelled (Inner prefix (before ++ after)) in
    let more = spelled (Inner prefix (before ++ link ∷ after)) in
    let long : length more ≡ length (less ++ thirteen) =
    omega (
      arith,
      length-append less thirteen,
      length_spelled prefix (before ++ link ∷ after),
      length_spelled prefix (before ++ after),
      length-append before (link ∷ after),
      length-append
          before after,
    ) in
    let none : 0 + length (less ++ thirteen) ≡ length (less ++ thirteen) = omega arith in (
      13 + holds.0,
      ap (λ n. (less ++ thirteen) ++ drop n bytes) none
          ∙ ap (λ xs. (less ++ thirteen) ++ drop (length (less ++ thirteen)) xs) holds.1 ∙ ap (λ xs. (less ++ thirteen) ++ xs) (drop_at more zeros (length (less ++ thirteen)) long)
          ∙ append_assoc less thirteen zeros ∙ ap (λ xs. less ++ xs) (replicate-append-replicate 13 holds.0 0),
    )

one_link : (before after : List Link) (link : Link) → length (before ++ link ∷ after) ≡ 1 → (before ≡ []) × (after ≡ [])
one_link [] [] link h = (refl, refl)
one_link [] (x ∷ after) link h = absurd (omega arith)
one_link (x ∷ before) after link h = absurd (omega (arith, length-append before (link ∷ after)))

module _ (b : Blocks) (at to : BlockRef) (bytes key : List ℕ) (place from : ℕ) (t : IsTreeAt (length key) b at) (read : b at ≡ Some bytes)
    (leads : LeadsTo (node_of bytes) key place from to) (own : Owned (refs_at (length key) b at) b) where
  before : List Link
  before = (split b at to bytes key place from t read leads).before

  -- the tree below has lost the key, and stays
  pub cut_kept : (mid : Blocks) → Becomes (length (drop from key)) b mid to to (without (entries_at (length (drop from key)) b to) (drop from key))
      → Becomes (length key) b mid at at (without (entries_at (length key) b at) key)
  cut_kept mid below =
      let s = split b at to bytes key place from t read leads in
      let es = without (entries_at (length (drop from key)) b to) (drop from key) in
      let block : mid at ≡ Some s.node.bytes = kept_block b at to bytes key place from t read leads mid (refs_at (length (drop from key)) mid to) own below.changes ∙ s.node.block in
      let ref : IsRef to = all_middle (λ l. IsRef l.to) s.before s.after (record { edge = s.edge; to = to }) s.node.inner.refs in
      record {
        tree = step_tree b at to bytes key place from t read leads mid mid to es own below s.node.bytes block s.node.holds ref (λ r h. refl);
        entries_are = step_entries b at to bytes key place from t read leads mid mid to es own below s.node.bytes block s.node.holds ref (λ r h. refl)
            ∙ sym (step_without b at to bytes key place from t read leads);
        changes = step_changes b at to bytes key place from t read leads mid mid to es own below s.node.bytes block s.node.holds ref (λ r h. refl);
      }

  -- what stands in between, where the tree below is gone
  module _ (mid : Blocks) (gone : without (entries_at (length (drop from key)) b to) (drop from key) ≡ []) (ended : Changes b mid (refs_at (length (drop from key)) b to) []) where
    pub mid_same : mid at ≡ b at
    mid_same = kept_block b at to bytes key place from t read leads mid [] own ended

    rest_entries : without (entries_at (length key) b at) key ≡ below_links (split b at to bytes key place from t read leads).prefix (entries (length key) b)
        (split b at to bytes key place from t read leads).before ++ below_links (split b at to bytes key place from t read leads).prefix (entries (length key) b)
        (split b at to bytes key place from t read leads).after
    rest_entries =
        let s = split b at to bytes key place from t read leads in
        step_without b at to bytes key place from t read leads ∙ ap
        (λ es. below_links s.prefix (entries (length key) b) s.before ++ (map (under (s.prefix ++ s.edge ∷ [])) es ++ below_links s.prefix (entries (length key) b) s.after)) gone

    node_is : node_of (bytes_at mid at) ≡ Inner (split b at to bytes key place from t read leads).prefix
        ((split b at to bytes key place from t read leads).before ++ (record { edge = (split b at to bytes key place from t read leads).edge; to = to })
        ∷ (split b at to bytes key place from t read leads).after)
    node_is =
        let s = split b at to bytes key place from t read leads in
        let links = s.before ++ (record { edge = s.edge; to = to }) ∷ s.after in
        ap (λ o. node_of (unwrap_or o [])) (mid_same ∙ s.node.block) ∙ node_told (length key) s.node.bytes (Inner s.prefix links) s.node.holds s.node.inner

    -- the node had this link alone
    pub cut_alone : length (links_in (node_of (bytes_at mid at))) ≡ 1 → without (entries_at (length key) b at) key ≡ []
    cut_alone alone =
        let s = split b at to bytes key place from t read leads in
        let none = one_link s.before s.after (record { edge = s.edge; to = to }) (sym (ap (λ n. length (links_in n)) node_is) ∙ alone) in
        rest_entries ∙ ap (λ ls. below_links s.prefix (entries (length key) b) ls ++ below_links s.prefix (entries (length key) b) s.after) none.0
        ∙ ap (below_links s.prefix (entries (length key) b)) none.1

    pub cut_alone_ended : (after : Blocks) → length (links_in (node_of (bytes_at mid at))) ≡ 1 → after ≡ with_block mid at None → Changes b after (refs_at (length key) b at) []
    cut_alone_ended after alone back =
        let s = split b at to bytes key place from t read leads in
        let none = one_link s.before s.after (record { edge = s.edge; to = to }) (sym (ap (λ n. length (links_in n)) node_is) ∙ alone) in
        let low : refs_below (length key) b s.before ≡ [] = ap (refs_below (length key) b) none.0 in
        let high : refs_below (length key) b s.after ≡ [] = ap (refs_below (length key) b) none.1 in
        let all : (r : BlockRef) → times r (refs_at (length key) b at) ≡ one r at + times r (refs_at (length (drop from key)) b to) =
        λ r. omega (arith, times_owns b at to bytes key place from t read leads r, ap (times r) low, ap (times r) high) in
        let part : Owned (refs_at (length (drop from key)) b to) b = λ r. omega (arith, own r, all r) in
        let first = counts_beside b mid (refs_at (length (drop from key)) b to) [] (refs_at (length key) b at) (at ∷ [])
        (counts_changed b mid (refs_at (length (drop from key)) b to) [] part ended) (λ r. one r at) (λ r. omega (arith, all r)) (λ r. omega arith) in
        changes_counted b after (refs_at (length key) b at) [] own (counts_then b mid after (refs_at (length key) b at) (at ∷ []) [] first
        (counts_ended mid after at (at ∷ []) [] (subst (λ o. IsSome o) (sym mid_same) (tree_live (suc (length key)) (length key) b at t)) back (λ r. omega arith)))

    -- the node has other links
    pub cut_unlinked : (after : Blocks) → 1 < length (links_in (node_of (bytes_at mid at)))
        → after ≡ with_block mid at
        (Some (overwritten (bytes_at mid at) 0 (spelled (Inner (prefix_in (node_of (bytes_at mid at))) (remove (links_in (node_of (bytes_at mid at))) place)) ++ replicate 13 0)))
        → Becomes (length key) b after at at (without (entries_at (length key) b at) key)
    cut_unlinked after others written =
        let s = split b at to bytes key place from t read leads in
        let link : Link = record { edge = s.edge; to = to } in
        let links = s.before ++ link ∷ s.after in
        let thirteen : List ℕ = replicate 13 0 in
        let stood : bytes_at mid at ≡ s.node.bytes = ap (λ o. unwrap_or o []) (mid_same ∙ s.node.block) in
        let left : remove links place ≡ s.before ++ s.after = remove_at s.before s.after link place s.many in
        let now = overwritten s.node.bytes 0 (spelled (Inner s.prefix (s.before ++ s.after)) ++ thirteen) in
        let is : overwritten (bytes_at mid at) 0 (spelled (Inner (prefix_in (node_of (bytes_at mid at))) (remove (links_in (node_of (bytes_at mid at))) place)) ++ thirteen) ≡ now =
        ap (λ m. overwritten (bytes_at mid at) 0 (spelled (Inner (prefix_in m) (remove (links_in m) place)) ++ thirteen)) node_is
        ∙ ap (λ ls. overwritten (bytes_at mid at) 0 (spelled (Inner s.prefix ls) ++ thirteen)) left ∙ ap (λ xs. overwritten xs 0 (spelled (Inner s.prefix (s.before ++ s.after)) ++ thirteen)) stood in
        let block : after at ≡ Some now = ap (λ m. m at) written ∙ with_block_same mid at
        (Some (overwritten (bytes_at mid at) 0 (spelled (Inner (prefix_in (node_of (bytes_at mid at))) (remove (links_in (node_of (bytes_at mid at))) place)) ++ thirteen)))
        ∙ ap Some is in
        let several : 0 < length (s.before ++ s.after) = omega (arith, ap (λ n. length (links_in n)) node_is, length-append s.before (link ∷ s.after), length-append s.before s.after) in
        let named = child b at to bytes key place from t read leads in
        let graft : IsGraft (length key) (length key) b mid after at s.prefix s.before (link ∷ []) [] s.after = record {
          node = s.node;
          own = own;
          below = subst (λ xs. Changes b mid xs []) (named.refs_are ∙ sym (append-nil (refs (length key) b to))) ended;
          trees = tt;
          bytes = now;
          block = block;
          holds = narrowed_bytes s.node.bytes s.prefix s.before s.after link s.node.holds;
          inner = inner_skip (length key) s.prefix s.before s.after link several s.node.inner;
          others = λ r other. ap (λ m. m r) written ∙ with_block_other mid at r
              (Some (overwritten (bytes_at mid at) 0 (spelled (Inner (prefix_in (node_of (bytes_at mid at))) (remove (links_in (node_of (bytes_at mid at))) place)) ++ thirteen))) other;
        } in
        let done = grafted (length key) (length key) b mid after at s.prefix s.before (link ∷ []) [] s.after graft in
        record { tree = done.tree; entries_are = done.entries_are ∙ sym rest_entries; changes = done.changes }

-- an inner node has room for itself without a link, and for zero bytes
pub narrow_room : (bytes : List ℕ) (place : ℕ) → IsInnerBytes bytes → place < length (links_in (node_of bytes))
    → length (spelled (Inner (prefix_in (node_of bytes)) (remove (links_in (node_of bytes)) place)) ++ replicate 13 0) ≤ length bytes
narrow_room bytes place told within =
    let inner = inner_told bytes told in
    let links = links_in (node_of bytes) in
    let thirteen : List ℕ = replicate 13 0 in
    let less = remove links place in
    let long = inner.laid.long in
    let fewer : length less ≡ length links - 1 = omega (arith, length-append (take place links) (drop (suc place) links), length-take-le place links (omega arith), length-drop (suc place) links) in
    omega (
      arith,
      length-append (spelled (Inner (prefix_in (node_of bytes)) less)) thirteen,
      length_spelled (prefix_in (node_of bytes)) less,
      ap (λ n. length (links_in n)) inner.node_is,
      ap
          (λ n. length (prefix_in n)) inner.node_is,
    )

pub no_value : {o : Option BlockRef} → o ≡ None → IsSome o → ⊥
no_value {o = o} is some = by_case (subst (λ p. IsSome p) is some)
  where
    by_case : IsSome {T = BlockRef} None → ⊥
    by_case h = cc

-- what a test for the contrary says
pub was_kept : (gone : Bool) → not gone ≡ true → gone ≡ false
was_kept true h = sym h
was_kept false h = refl

pub was_gone : (gone : Bool) → not gone ≡ false → gone ≡ true
was_gone true h = refl
was_gone false h = sym h
