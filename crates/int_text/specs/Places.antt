-- Digits before and behind the place of a point.
use Rattle.std.specs.Prelude.{◌≡◌, ◌≢◌, ℕ, ◌-◌, ◌*◌, ◌^◌, ◌<◌, ◌≤◌, ◌⊎◌, min, List, length, take, drop, Result, Ok, Err}
use Rattle.std.specs.Str.Parse.{digits_value, digits_value_after}
use Rattle.int_text.specs.declared.score.ScoreFault.{ScoreFault}
use Rattle.int_text.specs.declared.score.ScoreFault.TheVariants.{Malformed, NotWhole, TooLarge}

-- The digits of the whole part and of the fraction, of which so many stand before the point.
module _ (whole fraction : List ℕ) (before : ℕ) where
  abbrev pub whole_kept : ℕ
  whole_kept = min before (length whole)

  abbrev pub fraction_kept : ℕ
  fraction_kept = min (before - whole_kept) (length fraction)

  -- the digits before the point, and zeros where there are too few
  abbrev pub kept : ℕ
  kept =
      digits_value_after 10 (digits_value 10 (take whole_kept whole)) (take fraction_kept fraction)
      * 10 ^ (before - whole_kept - fraction_kept)

  -- nothing but zeros stands behind the point
  pub record IsNothingBehind : Type 0 where
    pub of_whole : digits_value 10 (drop whole_kept whole) ≡ 0
    pub of_fraction : digits_value 10 (drop fraction_kept fraction) ≡ 0

  abbrev pub IsValueAt : Result ℕ ScoreFault → Type 0
  IsValueAt (Ok n) = IsNothingBehind × (n ≡ kept) × (n ≤ 2 ^ 53)
  IsValueAt (Err Malformed) = ⊥
  IsValueAt (Err NotWhole) =
      (digits_value 10 (drop whole_kept whole) ≢ 0) ⊎ (digits_value 10 (drop fraction_kept fraction) ≢ 0)
  IsValueAt (Err TooLarge) = IsNothingBehind × (2 ^ 53 < kept)
