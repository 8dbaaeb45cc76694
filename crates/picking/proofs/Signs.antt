-- What is picked, by the sign of the number that was asked for.
use Rattle.std.proofs.Common.{◌≡◌, ℕ, ℤ, pos, negsuc, int_lt, unsigned_abs, true, false, List, Some, subst, arith}
use Rattle.std.proofs.lemmas.Bool.{ltb-true}
use Rattle.blocks.specs.Blocks.{Blocks}
use Rattle.picking.specs.Picks.{ArePicks, AreDraws, IsPick}

module _ (sound : Blocks → Type 0) (has : Blocks → ℕ → Type 0) where
  pub drawn : (n : ℤ) (many : ℕ) (items : List ℕ) → int_lt n (pos 0) ≡ true → many ≡ unsigned_abs n → AreDraws sound has many items → IsPick sound has (Some n) items
  drawn (pos n) many items below is p = absurd (omega (arith, ltb-true n 0 below))
  drawn (negsuc n) many items below is p = subst (λ (k : ℕ). AreDraws sound has k items) is p

  pub apart : (n : ℤ) (many : ℕ) (items : List ℕ) → int_lt n (pos 0) ≡ false → many ≡ unsigned_abs n → ArePicks sound has many items → IsPick sound has (Some n) items
  apart (pos n) many items below is p = subst (λ (k : ℕ). ArePicks sound has k items) is p
  apart (negsuc n) many items below is p = (let no : true ≡ false = below in absurd cc)
