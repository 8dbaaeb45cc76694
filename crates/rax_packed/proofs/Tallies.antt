-- How many nodes there are, told from which references are live.
use Rattle.std.proofs.Common.{◌≡◌, ◌∙◌, ℕ, suc, ◌+◌, ◌<◌, Bool, true, false, cond, List, [], ◌∷◌, ◌++◌, length, Some, IsSome, refl, ap, subst, inl, inr, arith, length-append}
use Rattle.std.proofs.lemmas.Bool.{cond-true, cond-false}
use Rattle.blocks.specs.declared.BlockRef.{BlockRef}
use Rattle.blocks.specs.Blocks.{Blocks, ref_eq, live, times, Changes, Owned, with_block}
use Rattle.blocks.proofs.Refs.{ref_eq_refl, cases_ref}
use Rattle.blocks.proofs.Times.{times-append}
use Rattle.blocks.proofs.Change.{one, live_written, counts_changed}

-- the list without a reference, once
abbrev less : BlockRef → List BlockRef → List BlockRef
less r [] = []
less r (x ∷ xs) = cond (ref_eq x r) xs (x ∷ less r xs)

-- it is shorter by one
less_length : (r : BlockRef) (xs : List BlockRef) → 0 < times r xs → suc (length (less r xs)) ≡ length xs
less_length r [] h = absurd (omega arith)
less_length r (x ∷ xs) h = by_test (ref_eq x r) h (less_length r xs)
  where
    by_test : (t : Bool) → 0 < cond t 1 0 + times r xs → (0 < times r xs → suc (length (less r xs)) ≡ length xs) → suc (length (cond t xs (x ∷ less r xs))) ≡ suc (length xs)
    by_test true h rest = refl
    by_test false h rest = ap suc (rest (omega (arith, h)))

-- and that reference alone stands in it once less
less_times : (q r : BlockRef) (xs : List BlockRef) → 0 < times r xs → times q (less r xs) + one q r ≡ times q xs
less_times q r [] h = absurd (omega arith)
less_times q r (x ∷ xs) h = elim (cases_ref x r) [
  | inl same ↦
      (let is : ref_eq x r ≡ true = subst (λ y. ref_eq x y ≡ true) same (ref_eq_refl x) in
      let left : less r (x ∷ xs) ≡ xs = cond-true _ _ _ is in
      let here : one q x ≡ one q r = ap (one q) same in
      omega (arith, ap (times q) left, here))
  | inr other ↦
      (let left : less r (x ∷ xs) ≡ x ∷ less r xs = cond-false _ _ _ other in
      let none : one r x ≡ 0 = cond-false _ _ _ other in
      let some : 0 < times r xs = omega (arith, h, none) in
      omega (arith, ap (times q) left, less_times q r xs some))
]

-- lists in which each reference stands as often are as long
pub same_many : (xs ys : List BlockRef) → ((r : BlockRef) → times r xs ≡ times r ys) → length xs ≡ length ys
same_many [] [] same = refl
same_many [] (y ∷ ys) same = absurd (let here : one y y ≡ 1 = cond-true _ _ _ (ref_eq_refl y) in omega (arith, same y, here))
same_many (x ∷ xs) ys same =
    let here : one x x ≡ 1 = cond-true _ _ _ (ref_eq_refl x) in
    let some : 0 < times x ys = omega (arith, same x, here) in
    let rest = same_many xs (less x ys) (λ r. omega (arith, same r, less_times r x ys some)) in
    omega (arith, rest, less_length x ys some)

-- where some references went and others came, an owner has as many more as came, less those that went
pub many : (b after : Blocks) (xs ys old new : List BlockRef) → Owned xs b → Changes b after xs ys → ((r : BlockRef) → live after r + times r old ≡ live b r + times r new)
    → length ys + length old ≡ length xs + length new
many b after xs ys old new own p told =
    let all = same_many (ys ++ old) (xs ++ new) (λ r. omega (arith, times-append r ys old, times-append r xs new, (counts_changed b after xs ys own p).balance r, told r)) in
    omega (arith, all, length-append ys old, length-append xs new)

-- the same where a part of what it owned has changed, and then nothing went or came
pub step_many : (b mid later : Blocks) (xs ys old new : List BlockRef) → Owned xs b → Changes b later xs ys → Owned old b → Changes b mid old new
    → ((r : BlockRef) → live later r ≡ live mid r) → length ys + length old ≡ length xs + length new
step_many b mid later xs ys old new own p part q same =
    many b later xs ys old new own p (λ r. omega (arith, same r, (counts_changed b mid old new part q).balance r))

-- a block that is written stays live, and so do all others
pub written_live : (m after : Blocks) (at : BlockRef) (bytes : List ℕ) → IsSome (m at) → after ≡ with_block m at (Some bytes) → (r : BlockRef) → live after r ≡ live m r
written_live m after at bytes was is r = ap (λ n. live n r) is ∙ live_written m at bytes was r
