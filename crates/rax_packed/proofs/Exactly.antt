-- Blocks that an edit places are those of its new nodes.
use Rattle.std.proofs.Common.{◌≡◌, ◌∙◌, ℕ, List, [], Option, None, Some, IsSome, unwrap_or, inl, inr, sym, ap}
use Rattle.blocks.specs.declared.BlockRef.{BlockRef}
use Rattle.blocks.specs.Blocks.{Blocks, with_block}
use Rattle.blocks.proofs.Refs.{cases_ref, with_block_same, with_block_other}
use Rattle.rax_packed.specs.Exact.{PlacesExactly, PlacesNone}
use Rattle.rax_packed.specs.Nodes.{Node, spelled}

no_some : (o : Option (List ℕ)) → o ≡ None → IsSome o → ⊥
no_some None is h = cc
no_some (Some x) is h = cc

-- nothing changed
pub exact_same : (b : Blocks) → PlacesExactly b b
exact_same b = λ r bytes none there. absurd (let bad : None ≡ Some bytes = sym none ∙ there in cc)

-- one node more was placed
pub exact_put : (b m after : Blocks) (at : BlockRef) (bytes : List ℕ) (node : Node) → PlacesExactly b m → after ≡ with_block m at (Some bytes) → bytes ≡ spelled node → PlacesExactly b after
exact_put b m after at bytes node was is spelt = λ r held none there. elim (cases_ref r at) [
  | inl same ↦ (
    node,
    let one : Some bytes ≡ Some held = sym (with_block_same m at (Some bytes)) ∙ sym (ap (λ q. with_block m at (Some bytes) q) same) ∙ sym (ap (λ f. f r) is)
        ∙ there in sym (ap (λ o. unwrap_or o []) one) ∙ spelt,
  )
  | inr other ↦ was r held none (sym (with_block_other m at r (Some bytes) other) ∙ sym (ap (λ f. f r) is) ∙ there)
]

-- a block was given back
pub exact_drop : (b m after : Blocks) (at : BlockRef) → PlacesExactly b m → after ≡ with_block m at None → PlacesExactly b after
exact_drop b m after at was is = λ r held none there. elim (cases_ref r at) [
  | inl same ↦ absurd (let bad : None ≡ Some held = sym (with_block_same m at None) ∙ sym (ap (λ q. with_block m at None q) same) ∙ sym (ap (λ f. f r) is) ∙ there in cc)
  | inr other ↦ was r held none (sym (with_block_other m at r None other) ∙ sym (ap (λ f. f r) is) ∙ there)
]

-- a block that was there at first was written
pub exact_write : (b m after : Blocks) (at : BlockRef) (bytes : List ℕ) → PlacesExactly b m → IsSome (b at) → after ≡ with_block m at (Some bytes) → PlacesExactly b after
exact_write b m after at bytes was live is = λ r held none there. elim (cases_ref r at) [
  | inl same ↦ absurd (no_some (b at) (ap b (sym same) ∙ none) live)
  | inr other ↦ was r held none (sym (with_block_other m at r (Some bytes) other) ∙ sym (ap (λ f. f r) is) ∙ there)
]

-- nothing changed
pub none_same : (b : Blocks) → PlacesNone b b
none_same b = λ r none. none

-- a block was given back
pub none_drop : (b m after : Blocks) (at : BlockRef) → PlacesNone b m → after ≡ with_block m at None → PlacesNone b after
none_drop b m after at was is = λ r none. elim (cases_ref r at) [
  | inl same ↦ ap (λ f. f r) is ∙ ap (λ q. with_block m at None q) same ∙ with_block_same m at None
  | inr other ↦ ap (λ f. f r) is ∙ with_block_other m at r None other ∙ was r none
]

-- a block that was there at first was written
pub none_write : (b m after : Blocks) (at : BlockRef) (bytes : List ℕ) → PlacesNone b m → IsSome (b at) → after ≡ with_block m at (Some bytes) → PlacesNone b after
none_write b m after at bytes was live is = λ r none. elim (cases_ref r at) [
  | inl same ↦ absurd (no_some (b at) (ap b (sym same) ∙ none) live)
  | inr other ↦ ap (λ f. f r) is ∙ with_block_other m at r (Some bytes) other ∙ was r none
]
