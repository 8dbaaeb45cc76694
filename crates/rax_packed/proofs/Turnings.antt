-- The steps of a seek.
use Rattle.std.proofs.Common.{◌≡◌, ◌≢◌, ◌∙◌, ℕ, zero, suc, ◌+◌, ◌*◌, ◌-◌, ◌<◌, ◌≤◌, Bool, true, false, List, [], ◌∷◌, ◌++◌, length, take, drop, get_or, Option, Some, None, refl, sym, ap}
use Rattle.std.proofs.Common.{subst, arith, append_assoc}
use Rattle.std.proofs.lemmas.List.{append-nil, take_all, take_more_set}
use Rattle.std.proofs.lemmas.List.Edits.{take-paste, length-paste}
use Rattle.std.proofs.lemmas.Slice.{put_mid-paste}
use Rattle.std.proofs.lemmas.Option.{slice_get-get_or}
use Rattle.std.specs.List.{AllByRecursion, slice_set}
use Rattle.std.specs.Prelude.{slice_get, slice_index}
use Rattle.std.specs.Option.{option_map}
use borrow.Rule.Slice.PartMut.{put_mid}
use lib.Seq.{paste}
use Rattle.blocks.specs.declared.BlockRef.{BlockRef}
use Rattle.blocks.specs.Blocks.{Blocks}
use Rattle.rax_packed.specs.Nodes.{Link, Node, Leaf, Inner, edges_of, refs_bytes, IsRef, ref_from, node_of, IsNode, prefix_from}
use Rattle.rax_packed.specs.Trees.{node_at, entries_in, entries, IsTree, entries_at, IsTreeAt}
use Rattle.rax_packed.specs.Ways.{prefix_in, links_in, beside, aside, IsInnerBytes}
use Rattle.rax_packed.specs.Turns.{Turns, IsChosen, IsNearEnd}
use Rattle.rax_packed.specs.declared.seek.Turn.{Turn}
use Rattle.rax_packed.specs.Packed.{first_of, last_of, end_of}
use Rattle.rax_packed.proofs.Choices.{inner_told, edge_at, ref_at}
use Rattle.rax_packed.proofs.Spellings.{as_inner}
use Rattle.rax_packed.proofs.Entries.{below_links}
use Rattle.rax_packed.proofs.Ends.{side_links, side_end, side_none, found_under}
use Rattle.rax_packed.proofs.Frames.{InnerAt, inner_at, leaf_entries}
use Rattle.rax_packed.proofs.Looks.{Named, named, node_read}

-- a path with a prefix and an edge behind its first bytes
pub stepped_path : (path prefix piece : List ℕ) (depth edge : ℕ) → piece ≡ prefix → depth + length prefix < length path
    → take (depth + length prefix + 1) (slice_set (put_mid depth (depth + length prefix - depth) path piece) (depth + length prefix) edge) ≡ take depth path ++ (prefix ++ edge ∷ [])
stepped_path path prefix piece depth edge is within =
    let width : length prefix ≡ depth + length prefix - depth = omega arith in
    let pasted : put_mid depth (depth + length prefix - depth) path piece ≡ paste path depth prefix (length prefix) =
    put_mid-paste depth (depth + length prefix - depth) path piece prefix (length prefix) is width refl in
    let long : length (paste path depth prefix (length prefix)) ≡ length path = length-paste path depth prefix (length prefix) (omega arith) (omega arith) in
    ap (λ xs. take (depth + length prefix + 1) (slice_set xs (depth + length prefix) edge)) pasted
    ∙ take_more_set (paste path depth prefix (length prefix)) (depth + length prefix) edge (omega (arith, long))
    ∙ ap (λ xs. xs ++ edge ∷ []) (take-paste path depth prefix (length prefix) (omega arith) (omega arith) ∙ ap (λ xs. take depth path ++ xs) (take_all (length prefix) prefix (omega arith)))
    ∙ append_assoc (take depth path) prefix (edge ∷ [])

chosen_beside : (up : Bool) (links : List Link) (place at : ℕ) (d : Link) → IsChosen up (length links) place (Some at) → beside up links place ≡ Some (get_or links at d)
chosen_beside true links place at d chosen = ap (slice_get links) (sym chosen.1) ∙ slice_get-get_or links at d chosen.0
chosen_beside false links zero at d chosen = absurd (omega (arith, chosen.1))
chosen_beside false links (suc place) at d chosen = let same : place ≡ at = omega (arith, chosen.1) in ap (slice_get links) same ∙ slice_get-get_or links at d chosen.0

pub chosen_within : (up : Bool) (count place at : ℕ) → IsChosen up count place (Some at) → at < count
chosen_within true count place at chosen = chosen.0
chosen_within false count place at chosen = chosen.0

past : (links : List Link) (k : ℕ) → length links ≤ k → slice_get links k ≡ None
past [] k h = refl
past (l ∷ links) zero h = absurd (omega arith)
past (l ∷ links) (suc k) h = past links k (omega arith)

-- what is read of the link
pub turned : (up : Bool) (bytes : List ℕ) (place at depth : ℕ) (path prefix edges refs : List ℕ) (turn : Turn) → IsInnerBytes bytes
    → IsChosen up (length (links_in (node_of bytes))) place (Some at) → prefix ≡ prefix_in (node_of bytes) → edges ≡ edges_of (links_in (node_of bytes))
    → refs ≡ refs_bytes (links_in (node_of bytes))
    → turn.to ≡ ref_from (drop (12 * at) refs) → turn.depth ≡ depth + length prefix + 1 → take turn.depth turn.path ≡ take depth path ++ (prefix ++ slice_index edges at ∷ [])
    → Turns up (node_of bytes) place depth path turn
turned up bytes place at depth path prefix edges refs turn told chosen prefix_is edges_is refs_is to depth_is path_is =
    let inner = inner_told bytes told in
    let links = links_in (node_of bytes) in
    let same : links ≡ inner.links = ap links_in inner.node_is in
    let d : Link = record { edge = 0; to = record { slab = 0; slot = 0 } } in
    let within : at < length links = chosen_within up (length links) place at chosen in
    let fit : AllByRecursion (λ l. IsRef l.to) links = subst (AllByRecursion (λ l. IsRef l.to)) (sym same) inner.inner.refs in
    let target : turn.to ≡ (get_or links at d).to = to ∙ ap (λ rs. ref_from (drop (12 * at) rs)) (refs_is ∙ sym (append-nil (refs_bytes links))) ∙ ref_at links at d [] within fit in
    let edge : slice_index edges at ≡ (get_or links at d).edge = ap (λ es. get_or es at 0) edges_is ∙ sym (edge_at links at d within) in
    record {
      link = get_or links at d;
      is = chosen_beside up links place at d chosen;
      to_is = target;
      depth_is = depth_is ∙ ap (λ p. depth + length p + 1) prefix_is;
      path_is = path_is ∙ ap (λ p. take depth path ++ (p ++ slice_index edges at ∷ [])) prefix_is ∙ ap (λ e. take depth path ++ (prefix_in (node_of bytes) ++ e ∷ [])) edge;
    }

-- the tree that a turn leads to
beside_all : (up : Bool) (P : Link → Type 0) (links : List Link) (place : ℕ) (link : Link) → AllByRecursion P links → beside up links place ≡ Some link → P link
beside_all up P links place link all is = by_place up place is
  where
    by_get : (xs : List Link) (k : ℕ) → AllByRecursion P xs → slice_get xs k ≡ Some link → P link
    by_get [] k a h = cc
    by_get (x ∷ xs) zero a h = let same : x ≡ link = cc in subst P same a.0
    by_get (x ∷ xs) (suc k) a h = by_get xs k a.1 h

    by_place : (u : Bool) (p : ℕ) → beside u links p ≡ Some link → P link
    by_place true p h = by_get links p all h
    by_place false zero h = cc
    by_place false (suc p) h = by_get links p all h

-- an inner node that was read, at a depth
pub record ReadAt (n : ℕ) (b : Blocks) (at : BlockRef) (bytes : List ℕ) : Type 0 where
  pub node_is : node_at b at ≡ node_of bytes
  pub prefix : List ℕ
  pub links : List Link
  pub is : node_of bytes ≡ Inner prefix links
  pub node : InnerAt n n b at prefix links

pub read_at : (n : ℕ) (b : Blocks) (at : BlockRef) (bytes : List ℕ) → IsTreeAt n b at → b at ≡ Some bytes → IsInnerBytes bytes → ReadAt n b at bytes
read_at n b at bytes t read told =
    let is = node_read b at bytes read in
    record { node_is = is; prefix = told.prefix; links = told.links; is = told.is; node = inner_at n n b at told.prefix told.links t (is ∙ told.is) }

module _ (up : Bool) (n depth place : ℕ) (b : Blocks) (at : BlockRef) (bytes path : List ℕ) (turn : Turn) (r : ReadAt n b at bytes) (turns : Turns up (node_of bytes) place depth path turn)
    (level : n ≡ 16 - depth) where
  next : beside up r.links place ≡ Some turns.link
  next = ap (λ m. beside up (links_in m) place) (sym r.is) ∙ turns.is

  width : prefix_in (node_of bytes) ≡ r.prefix
  width = ap prefix_in r.is

  left_is : 16 - turn.depth ≡ n - suc (length r.prefix)
  left_is = omega (arith, turns.depth_is, ap length width, level)

  pub turn_named : Named b turn.to n (16 - turn.depth)
  turn_named =
      let tree : IsTree n (n - suc (length r.prefix)) b turns.link.to = beside_all up (λ l. IsTree n (n - suc (length r.prefix)) b l.to) r.links place turns.link r.node.below next in
      named b turn.to n (16 - turn.depth) (subst (λ m. IsTree n m b turn.to) (sym left_is) (subst (λ to. IsTree n (n - suc (length r.prefix)) b to) (sym turns.to_is) tree))

  pub turn_deeper : depth < turn.depth
  turn_deeper = omega (arith, turns.depth_is)

  pub turn_within : turn.depth ≤ 16
  turn_within = (let short = r.node.inner.short in omega (arith, turns.depth_is, ap length width, level))

  -- what is found there is the end of all on that side
  pub turn_found : (k : List ℕ) → Some k ≡ option_map (λ e. take turn.depth turn.path ++ e.key) (end_of up (entries_at (16 - turn.depth) b turn.to))
      → Some k ≡ option_map (λ e. take depth path ++ e.key) (end_of up (entries_in (entries n b) (aside up place (node_at b at))))
  turn_found k found =
      let begin = r.prefix ++ turns.link.edge ∷ [] in
      let es = entries n b turns.link.to in
      let here : end_of up (entries_at (16 - turn.depth) b turn.to) ≡ end_of up es = ap (end_of up) (turn_named.entries_are ∙ ap (entries n b) turns.to_is) in
      let behind : Some k ≡ option_map (λ e. (take depth path ++ begin) ++ e.key) (end_of up es) =
      found ∙ ap (option_map (λ e. take turn.depth turn.path ++ e.key)) here
      ∙ ap (λ front. option_map (λ e. front ++ e.key) (end_of up es)) (turns.path_is ∙ ap (λ p. take depth path ++ (p ++ turns.link.edge ∷ [])) width) in
      let side = side_end up r.prefix (λ l. entries n b l.to) r.links place turns.link next in
      found_under (take depth path) begin k (end_of up es) side.0 behind
      ∙ ap (option_map (λ e. take depth path ++ e.key)) (sym side.1 ∙ sym (ap (end_of up) (aside_entries up)))
    where
      aside_entries : (u : Bool) → entries_in (entries n b) (aside u place (node_at b at)) ≡ below_links r.prefix (entries n b) (side_links u place r.links)
      aside_entries true = ap (λ m. entries_in (entries n b) (aside true place m)) (r.node_is ∙ r.is)
      aside_entries false = ap (λ m. entries_in (entries n b) (aside false place m)) (r.node_is ∙ r.is)

-- nothing stands on that side
pub turn_none : (up : Bool) (n depth place : ℕ) (b : Blocks) (at : BlockRef) (bytes path : List ℕ) → ReadAt n b at bytes → place ≤ length (links_in (node_of bytes))
    → beside up (links_in (node_of bytes)) place ≡ None
    → None ≡ option_map (λ e. take depth path ++ e.key) (end_of up (entries_in (entries n b) (aside up place (node_at b at))))
turn_none up n depth place b at bytes path r within none =
    let few : place ≤ length r.links = omega (arith, ap (λ m. length (links_in m)) r.is) in
    let empty = side_none up r.links place few (ap (λ m. beside up (links_in m) place) (sym r.is) ∙ none) in
    by_side up empty
  where
    by_side : (u : Bool) → side_links u place r.links ≡ [] → None ≡ option_map (λ e. take depth path ++ e.key) (end_of u (entries_in (entries n b) (aside u place (node_at b at))))
    by_side true e = sym
        (ap (λ m. option_map (λ e. take depth path ++ e.key) (first_of (entries_in (entries n b) (aside true place m)))) (r.node_is ∙ r.is)
        ∙ ap (λ ls. option_map (λ e. take depth path ++ e.key) (first_of (below_links r.prefix (entries n b) ls))) e)
    by_side false e = sym
        (ap (λ m. option_map (λ e. take depth path ++ e.key) (last_of (entries_in (entries n b) (aside false place m)))) (r.node_is ∙ r.is)
        ∙ ap (λ ls. option_map (λ e. take depth path ++ e.key) (last_of (below_links r.prefix (entries n b) ls))) e)

-- the one entry of a leaf is at both ends
pub leaf_end : (up : Bool) (n : ℕ) (b : Blocks) (at value : BlockRef) (prefix : List ℕ) → node_at b at ≡ Leaf prefix value
    → end_of up (entries_at n b at) ≡ Some (record { key = prefix; value = value })
leaf_end true n b at value prefix is = ap first_of (leaf_entries n b at prefix value is)
leaf_end false n b at value prefix is = ap last_of (leaf_entries n b at prefix value is)

pub inner_bytes : (rest : ℕ) (bytes : List ℕ) → IsNode rest bytes → rest ≤ 16 → slice_index bytes 0 ≢ 0 → IsInnerBytes bytes
inner_bytes rest bytes node few other =
    let inner = as_inner rest bytes node other in
    record { rest = rest; few = few; node = node; prefix = prefix_from bytes; links = inner.links; is = inner.node_is }

-- all of a node lies beyond its near end
pub aside_all : (up : Bool) (place : ℕ) (node : Node) → IsNearEnd up (length (links_in node)) place → aside up place node ≡ node
aside_all up place (Leaf prefix value) h = refl
aside_all true place (Inner prefix links) h = ap (λ k. Inner prefix (drop k links)) h
aside_all false place (Inner prefix links) h = ap (λ k. Inner prefix (take k links)) h ∙ ap (Inner prefix) (take_all (length links) links (omega arith))

pub near_within : (up : Bool) (count place : ℕ) → IsNearEnd up count place → place ≤ count
near_within true count place h = omega (arith, h)
near_within false count place h = omega (arith, h)

pub near_some : (up : Bool) (links : List Link) (place : ℕ) → 0 < length links → IsNearEnd up (length links) place → beside up links place ≡ None → ⊥
near_some true [] place some h e = omega arith
near_some true (l ∷ links) place some h e = let bad : ◌≡◌ {A = Option Link} (Some l) None = ap (slice_get (l ∷ links)) (sym h) ∙ e in cc
near_some false links zero some h e = omega (arith, h)
near_some false links (suc place) some h e = let bad : ◌≡◌ {A = Option Link} (Some (get_or links place d)) None = sym (slice_get-get_or links place d (omega (arith, h))) ∙ e in cc
  where
    d : Link
    d = record { edge = 0; to = record { slab = 0; slot = 0 } }

pub whole_entries : (up : Bool) (n : ℕ) (b : Blocks) (at : BlockRef) (front : List ℕ)
    → option_map (λ e. front ++ e.key) (end_of up (entries_in (entries n b) (node_at b at))) ≡ option_map (λ e. front ++ e.key) (end_of up (entries_at n b at))
unfolding entries
whole_entries up n b at front = refl
