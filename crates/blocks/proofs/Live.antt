-- Which references are live after a call.
use Rattle.std.proofs.Common.{◌≡◌, ℕ, false, List, Some, None, IsSome, refl, sym, ap, ◌∙◌, subst, inl, inr}
use Rattle.blocks.specs.declared.BlockRef.{BlockRef}
use Rattle.blocks.specs.Blocks.{Blocks, with_block, ref_eq}
use Rattle.blocks.proofs.Refs.{cases_ref, with_block_same, with_block_other}

-- a placed or written block is live, and so are all that were
pub live_put_in_live : (m n : Blocks) (at : BlockRef) (bytes : List ℕ) → n ≡ with_block m at (Some bytes) → IsSome (n at)
live_put_in_live m n at bytes is = subst (λ o. IsSome o) (sym (ap (λ b. b at) is ∙ with_block_same m at (Some bytes))) refl

pub live_beside_put : (m n : Blocks) (at r : BlockRef) (bytes : List ℕ) → n ≡ with_block m at (Some bytes) → IsSome (m r) → IsSome (n r)
live_beside_put m n at r bytes is was = elim (cases_ref r at) [
  | inl same ↦ subst (λ q. IsSome (n q)) (sym same) (live_put_in_live m n at bytes is)
  | inr other ↦ subst (λ o. IsSome o) (sym (ap (λ b. b r) is ∙ with_block_other m at r (Some bytes) other)) was
]

-- every reference but the one given back stays live
pub live_beside_return : (m n : Blocks) (at r : BlockRef) → n ≡ with_block m at None → ref_eq r at ≡ false → IsSome (m r) → IsSome (n r)
live_beside_return m n at r is other was = subst (λ o. IsSome o) (sym (ap (λ b. b r) is ∙ with_block_other m at r None other)) was

-- where the blocks are the same, so are the live references
pub live_kept_in_live : (m n : Blocks) (r q : BlockRef) → n q ≡ m r → IsSome (m r) → IsSome (n q)
live_kept_in_live m n r q same was = subst (λ o. IsSome o) (sym same) was
