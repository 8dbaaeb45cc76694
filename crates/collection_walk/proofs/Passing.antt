-- What a call answers that goes through a part of the marks, and what it passes.
use Rattle.std.proofs.Common.{◌≡◌, ◌⊎◌, ℕ, ◌<◌, ◌≤◌, true, false, List, Option, Some, None, slice_get, sym, ap, ◌∙◌, subst, arith, inl, inr}
use Rattle.std.specs.Prelude.{nat_lt, min, if◌then◌else◌, IfSome}
use Rattle.std.proofs.lemmas.Bool.{cases_Bool, cond-true, cond-false}
use Rattle.std.proofs.lemmas.Bool.Decides.{nat_tests}
use Rattle.blocks.specs.declared.BlockRef.{BlockRef}
use Rattle.blocks.specs.Slabs.{Heap}
use Rattle.collection_walk.specs.Marks.{is_passed, is_within, ArePassed}

module _ (from count start end : ℕ) (next : Option ℕ) (start_is : start ≡ min from count) (next_is : next ≡ (if nat_lt end count then Some end else None)) where
  pub passed_within : (mark : ℕ) → mark < count → is_passed from next mark ≡ is_within start end mark
  passed_within mark below = elim (cases_Bool (nat_lt end count)) [
    | inl more ↦ (let is : next ≡ Some end = next_is ∙ cond-true _ _ _ more in ap (λ o. is_passed from o mark) is ∙ inside more)
    | inr all ↦ (let is : next ≡ None = next_is ∙ cond-false _ _ _ all in ap (λ o. is_passed from o mark) is ∙ outside all)
  ]
    where
      inside : nat_lt end count ≡ true → is_passed from (Some end) mark ≡ is_within start end mark
      inside more = grind (arith, nat_tests)

      outside : nat_lt end count ≡ false → is_passed from None mark ≡ is_within start end mark
      outside all = grind (arith, nat_tests)

  -- a call that goes on moved on, and used all the room
  pub goes_on : (room used : ℕ) → start ≤ end → 32 ≤ room → (end < count → used ≡ room) → (start ≡ end → used ≡ 0) → IfSome next (λ to. (from < to) × (to < count) × (used ≡ room))
  goes_on room used order wide full none = elim (cases_Bool (nat_lt end count)) [
    | inl more ↦ (let less : end < count = grind (arith, nat_tests) in
        let some : start < end = moved (cases_Bool (nat_lt start end)) (full less) in
        subst (λ o. IfSome o (λ to. (from < to) × (to < count) × (used ≡ room))) (sym (next_is ∙ cond-true _ _ _ more)) (omega (arith, less, some, start_is), less, full less))
    | inr all ↦ subst (λ o. IfSome o (λ to. (from < to) × (to < count) × (used ≡ room))) (sym (next_is ∙ cond-false _ _ _ all)) tt
  ]
    where
      moved : (nat_lt start end ≡ true) ⊎ (nat_lt start end ≡ false) → used ≡ room → start < end
      moved (inl more) filled = grind (arith, nat_tests)
      moved (inr same) filled = (let here : start ≡ end = grind (arith, nat_tests) in absurd (omega (arith, none here, filled, wide)))

  -- what was done to the marks of the part was done to those that are passed
  pub part_passed : (heap : Heap) (marks : List ℕ) (old new : List BlockRef) → ((index mark : ℕ) → slice_get marks index ≡ Some mark → mark < count)
      → ArePassed heap (is_within start end) marks old new → ArePassed heap (is_passed from next) marks old new
  part_passed heap marks old new below p = record {
    calm = λ index mark r marked named is. p.calm index mark r marked named (sym (passed_within mark (below index mark marked)) ∙ is);
    stays = λ index mark marked out. p.stays index mark marked (sym (passed_within mark (below index mark marked)) ∙ out);
  }
