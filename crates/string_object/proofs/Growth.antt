-- What a block holds that was lengthened, in its place or in another.
use Rattle.std.proofs.Common.{◌≡◌, ℕ, ◌-◌, ◌≤◌, List, [], ◌∷◌, ◌++◌, Some, None, IsSome, length, take, replicate, refl, sym, ap, ◌∙◌, subst, inl, inr, arith}
use Rattle.std.specs.Prelude.{Result, IfOk}
use Rattle.std.specs.declared.result.Result.TheVariants.{Ok, Err}
use Rattle.std.proofs.lemmas.Bool.{cond-true, cond-false}
use Rattle.std.proofs.lemmas.Grind.{common_steps}
use Rattle.blocks.specs.declared.BlockRef.{BlockRef}
use Rattle.blocks.specs.Blocks.{Blocks, with_block, bytes_at, resized, widened, live, times, Changes, Owned}
use Rattle.blocks.proofs.Refs.{ref_eq_refl, ref_eq_sym, cases_ref, with_block_same, with_block_other}
use Rattle.blocks.proofs.Change.{one, live_some, counts_placed, counts_written, counts_ended, counts_then, changes_counted}

resized_longer : (xs : List ℕ) (len : ℕ) → length xs ≤ len → resized xs len ≡ widened xs len
resized_longer xs len room = ap (λ ys. ys ++ replicate (len - length xs) 0) (let e : take len xs ≡ xs = grind (arith, common_steps, room) in e)

-- in its place
pub stretched_bytes : (m n : Blocks) (at : BlockRef) (len : ℕ) → n ≡ with_block m at (Some (resized (bytes_at m at) len)) → length (bytes_at m at) ≤ len
    → n at ≡ Some (widened (bytes_at m at) len)
stretched_bytes m n at len is room = ap (λ k. k at) is ∙ (with_block_same m at (Some (resized (bytes_at m at) len)) ∙ ap Some (resized_longer (bytes_at m at) len room))

owned_one : (m : Blocks) (at : BlockRef) → IsSome (m at) → Owned (at ∷ []) m
owned_one m at was r = elim (cases_ref r at) [
  | inl same ↦ subst (λ q. times q (at ∷ []) ≤ live m q) (sym same) (let o : one at at ≡ 1 = cond-true _ _ _ (ref_eq_refl at) in omega (arith, o, live_some m at was))
  | inr other ↦ (let o : one r at ≡ 0 = cond-false _ _ _ (ref_eq_sym at r ∙ other) in omega (arith, o))
]

pub stretched_changes : (m n : Blocks) (at : BlockRef) (bytes : List ℕ) → IsSome (m at) → n ≡ with_block m at (Some bytes) → Changes m n (at ∷ []) (at ∷ [])
stretched_changes m n at bytes was is =
    let o : one at at ≡ 1 = cond-true _ _ _ (ref_eq_refl at) in
    changes_counted m n (at ∷ []) (at ∷ []) (owned_one m at was) (counts_written m n at bytes (at ∷ []) (at ∷ []) was is (omega (arith, o)) (λ r. refl))

-- in another
pub lengthened_bytes : {E : Type 0} (r : Result BlockRef E) (m n : Blocks) (at : BlockRef) (bytes : List ℕ) → IfOk r (λ new. n ≡ with_block (with_block m at None) new (Some bytes))
    → IfOk r (λ new. n new ≡ Some bytes)
lengthened_bytes (Ok new) m n at bytes is = ap (λ k. k new) is ∙ with_block_same (with_block m at None) new (Some bytes)
lengthened_bytes (Err e) m n at bytes is = is

pub lengthened_changes : {E : Type 0} (r : Result BlockRef E) (m n : Blocks) (at : BlockRef) (bytes : List ℕ) → IsSome (m at) → IfOk r (λ new. m new ≡ None)
    → IfOk r (λ new. n ≡ with_block (with_block m at None) new (Some bytes)) → IfOk r (λ new. Changes m n (at ∷ []) (new ∷ []))
lengthened_changes (Ok new) m n at bytes was fresh is =
    let free : with_block m at None new ≡ None = elim (cases_ref new at)
    [ inl same ↦ ap (with_block m at None) same ∙ with_block_same m at None | inr other ↦ with_block_other m at new None other ∙ fresh ] in
    changes_counted m n (at ∷ []) (new ∷ []) (owned_one m at was)
    (counts_then m (with_block m at None) n (at ∷ []) [] (new ∷ []) (counts_ended m (with_block m at None) at (at ∷ []) [] was refl (λ r. omega arith))
    (counts_placed (with_block m at None) n new bytes [] (new ∷ []) free is (λ r. omega arith)))
lengthened_changes (Err e) m n at bytes was fresh is = is
