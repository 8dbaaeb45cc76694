-- The node that a search by an id finds.
use Rattle.std.proofs.Common.{◌≡◌, ◌∙◌, ◌⊎◌, ℕ, ◌<◌, Bool, true, false, List, [], ◌∷◌, map, Option, Some, None, refl, sym, ap, subst, inl, inr, arith}
use Rattle.std.specs.Prelude.{not}
use Rattle.std.specs.List.{AllByRecursion, filter}
use Rattle.std.specs.Option.{option_map}
use Rattle.std.specs.Ordering.{is_lt, is_gt}
use Rattle.blocks.specs.declared.BlockRef.{BlockRef}
use Rattle.std.proofs.lemmas.Bool.{cases_lt, cases_eq, cond-true, cond-false}
use Rattle.blocks.specs.Blocks.{Blocks}
use Rattle.stream_node.specs.declared.id.Id.{Id}
use Rattle.stream_node.specs.Ids.{IsId, id_number, id_key, key_id}
use Rattle.stream_node.proofs.Ids.{id_laws, cmp_less, cmp_equal, cmp_greater}
use Rattle.rax_packed.specs.declared.tree.PackedTree.{PackedTree}
use Rattle.rax_packed.specs.Trees.{Entry}
use Rattle.rax_packed.specs.Packed.{order, value_at, nearest, first_of, last_of, or_else}
use Rattle.rax_packed.specs.Maps as rax
use Rattle.stream_object.specs.Block.{Holds}
use Rattle.stream_object.specs.Parts.{Part, part, IsPart, entry_of, HasParts}
use Rattle.stream_object.specs.Found.{Reaches, Misses, IsNear, Stands}
use Rattle.stream_object.proofs.Holdings.{holds_one}
use Rattle.stream_object.proofs.Exchanging.{stands_id, stands_block, stands_value}

-- which entries a search looks at
abbrev test : Bool → Id → Entry → Bool
test true id e = not (is_lt (order e.key (id_key id)))
test false id e = not (is_gt (order e.key (id_key id)))

tested : (up : Bool) (id : Id) (p : Part) → IsId id → IsId p.key → (Misses up id p × (test up id (entry_of p) ≡ false)) ⊎ (Reaches up id p × (test up id (entry_of p) ≡ true))
tested true id p a b =
    let o = id_laws.bytes p.key id b a in
    elim (cases_lt (id_number p.key) (id_number id)) [
      | inl less ↦ inl (less, ap (λ x. not (is_lt x)) (o ∙ cmp_less (id_number p.key) (id_number id) less))
      | inr upto ↦ elim (cases_eq (id_number p.key) (id_number id)) [
        | inl same ↦ inr (upto, ap (λ x. not (is_lt x)) (o ∙ cmp_equal (id_number p.key) (id_number id) same))
        | inr other ↦ (let more : id_number id < id_number p.key = omega arith in inr (upto, ap (λ x. not (is_lt x)) (o ∙ cmp_greater (id_number p.key) (id_number id) more)))
      ]
    ]
tested false id p a b =
    let o = id_laws.bytes p.key id b a in
    elim (cases_lt (id_number id) (id_number p.key)) [
      | inl more ↦ inl (more, ap (λ x. not (is_gt x)) (o ∙ cmp_greater (id_number p.key) (id_number id) more))
      | inr upto ↦ elim (cases_eq (id_number p.key) (id_number id)) [
        | inl same ↦ inr (upto, ap (λ x. not (is_gt x)) (o ∙ cmp_equal (id_number p.key) (id_number id) same))
        | inr other ↦ (let less : id_number p.key < id_number id = omega arith in inr (upto, ap (λ x. not (is_gt x)) (o ∙ cmp_less (id_number p.key) (id_number id) less)))
      ]
    ]

abbrev tests : Bool → Id → List Part → List Entry
tests up id ps = filter (test up id) (map entry_of ps)

-- what is found: the node, and the key that the tree names
abbrev pub Finds : Bool → List Part → Id → List ℕ → Type 0
Finds up ps id key = (p : Part) × IsNear up ps id p × (key ≡ id_key p.key)

module _ (m : Blocks) (id : Id) (a : IsId id) where
  first_none : (ps : List Part) → AllByRecursion (IsPart m) ps → None ≡ option_map (λ e. e.key) (first_of (tests true id ps)) → AllByRecursion (Misses true id) ps
  first_none [] each h = tt
  first_none (p ∷ ps) each h = elim (tested true id p a each.0.id) [
    | inl miss ↦ (miss.0, first_none ps each.1 (h ∙ ap (λ es. option_map (λ e. e.key) (first_of es)) (cond-false _ (entry_of p ∷ tests true id ps) (tests true id ps) miss.1)))
    | inr hit ↦ (let bad = h ∙ ap (λ es. option_map (λ e. e.key) (first_of es)) (cond-true _ (entry_of p ∷ tests true id ps) (tests true id ps) hit.1) in cc)
  ]

  first_found : (key : List ℕ) (ps : List Part) → AllByRecursion (IsPart m) ps → Some key ≡ option_map (λ e. e.key) (first_of (tests true id ps)) → Finds true ps id key
  first_found key [] each h = cc
  first_found key (p ∷ ps) each h = elim (tested true id p a each.0.id) [
    | inl miss ↦ (let more = first_found key ps each.1 (h ∙ ap (λ es. option_map (λ e. e.key) (first_of es)) (cond-false _ (entry_of p ∷ tests true id ps) (tests true id ps) miss.1)) in
        (more.0, record { before = p ∷ more.1.before; after = more.1.after; place = ap (λ xs. p ∷ xs) more.1.place; reaches = more.1.reaches; passes = (miss.0, more.1.passes) }, more.2))
    | inr hit ↦ (let is : Some key ≡ Some (id_key p.key) = h ∙ ap (λ es. option_map (λ e. e.key) (first_of es)) (cond-true _ (entry_of p ∷ tests true id ps) (tests true id ps) hit.1) in
        (p, record { before = []; after = ps; place = refl; reaches = hit.0; passes = tt }, cc))
  ]

  last_none : (ps : List Part) → AllByRecursion (IsPart m) ps → None ≡ option_map (λ e. e.key) (last_of (tests false id ps)) → AllByRecursion (Misses false id) ps
  last_none [] each h = tt
  last_none (p ∷ ps) each h = elim (tested false id p a each.0.id) [
    | inl miss ↦ (miss.0, last_none ps each.1 (h ∙ ap (λ es. option_map (λ e. e.key) (last_of es)) (cond-false _ (entry_of p ∷ tests false id ps) (tests false id ps) miss.1)))
    | inr hit ↦ never (last_of (tests false id ps)) (h ∙ ap (λ es. option_map (λ e. e.key) (last_of es)) (cond-true _ (entry_of p ∷ tests false id ps) (tests false id ps) hit.1))
  ]
    where
      never : {P : Type 0} (o : Option Entry) → None ≡ option_map (λ e. e.key) (or_else o (Some (entry_of p))) → P
      never None h = cc
      never (Some e) h = cc

  last_found : (key : List ℕ) (ps : List Part) → AllByRecursion (IsPart m) ps → Some key ≡ option_map (λ e. e.key) (last_of (tests false id ps)) → Finds false ps id key
  last_found key [] each h = cc
  last_found key (p ∷ ps) each h = elim (tested false id p a each.0.id) [
    | inl miss ↦ behind (last_found key ps each.1 (h ∙ ap (λ es. option_map (λ e. e.key) (last_of es)) (cond-false _ (entry_of p ∷ tests false id ps) (tests false id ps) miss.1)))
    | inr hit ↦ here hit.0 (last_found key ps each.1) (last_of (tests false id ps)) refl
        (h ∙ ap (λ es. option_map (λ e. e.key) (last_of es)) (cond-true _ (entry_of p ∷ tests false id ps) (tests false id ps) hit.1))
  ]
    where
      behind : Finds false ps id key → Finds false (p ∷ ps) id key
      behind more = (more.0, record { before = p ∷ more.1.before; after = more.1.after; place = ap (λ xs. p ∷ xs) more.1.place; reaches = more.1.reaches; passes = more.1.passes }, more.2)

      here : Reaches false id p → (Some key ≡ option_map (λ e. e.key) (last_of (tests false id ps)) → Finds false ps id key) → (o : Option Entry) → o ≡ last_of (tests false id ps)
          → Some key ≡ option_map (λ e. e.key) (or_else o (Some (entry_of p))) → Finds false (p ∷ ps) id key
      here hit more None same is = (p, record { before = []; after = ps; place = refl; reaches = hit; passes = last_none ps each.1 (ap (option_map (λ e. e.key)) same) }, cc)
      here hit more (Some e) same is = behind (more (is ∙ ap (option_map (λ e. e.key)) same))

  pub near_none : (up : Bool) (tree : PackedTree) (ps : List Part) → HasParts m tree ps → None ≡ option_map (λ e. e.key) (nearest up (rax.entries_of m tree) (id_key id))
      → AllByRecursion (Misses up id) ps
  unfolding nearest
  near_none true tree ps h is = first_none ps h.each (is ∙ ap (λ es. option_map (λ e. e.key) (first_of (filter (test true id) es))) h.named)
  near_none false tree ps h is = last_none ps h.each (is ∙ ap (λ es. option_map (λ e. e.key) (last_of (filter (test false id) es))) h.named)

  pub near_found : (up : Bool) (key : List ℕ) (tree : PackedTree) (ps : List Part) → HasParts m tree ps
      → Some key ≡ option_map (λ e. e.key) (nearest up (rax.entries_of m tree) (id_key id)) → Finds up ps id key
  unfolding nearest
  near_found true key tree ps h is = first_found key ps h.each (is ∙ ap (λ es. option_map (λ e. e.key) (first_of (filter (test true id) es))) h.named)
  near_found false key tree ps h is = last_found key ps h.each (is ∙ ap (λ es. option_map (λ e. e.key) (last_of (filter (test false id) es))) h.named)

-- what the tree and the store give for a key that was found
module _ (m : Blocks) (tree : PackedTree) (ps : List Part) (h : HasParts m tree ps) (up : Bool) (id : Id) (key : List ℕ) (f : Finds up ps id key) where
  abbrev stands : Stands ps f.0.key f.0.at
  stands = record { before = f.1.before; after = f.1.after; bytes = f.0.bytes; place = f.1.place }

  pub found_value : value_at (rax.entries_of m tree) key ≡ Some f.0.at
  found_value = ap (value_at (rax.entries_of m tree)) f.2 ∙ stands_value m tree ps f.0.key f.0.at h stands

  pub found_block : Holds m f.0.at f.0.bytes
  found_block = stands_block m tree ps f.0.key f.0.at h stands

  pub found_near : (at : BlockRef) (bytes : List ℕ) → Some at ≡ value_at (rax.entries_of m tree) key → Holds m at bytes → IsNear up ps id (part (key_id key) at bytes)
  found_near at bytes is block =
      let same : at ≡ f.0.at = (let e : Some at ≡ Some f.0.at = is ∙ found_value in cc) in
      let text : bytes ≡ f.0.bytes = holds_one m f.0.at bytes f.0.bytes (subst (λ a. Holds m a bytes) same block) found_block in
      let name : key_id key ≡ f.0.key = ap key_id f.2 ∙ id_laws.back f.0.key (stands_id m tree ps f.0.key f.0.at h stands) in
      subst (IsNear up ps id) (λ i. part (sym name i) (sym same i) (sym text i)) f.1
