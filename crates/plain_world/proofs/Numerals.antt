-- Numbers in decimal digits.
use Rattle.std.proofs.Common.{◌≡◌, ℕ, ◌+◌, ◌-◌, ◌*◌, ◌<◌, ◌≤◌, List, [], ◌∷◌, length, get_or, arith, lit<, refl}
use Rattle.std.specs.Fmt.{decimal}
use Rattle.std.specs.Int.{IsInRange}
use Rattle.std.proofs.lemmas.Str.Parse.{IsNumeralModel, numerals_by_fold, tells_by_index}
use Rattle.std.proofs.lemmas.Fmt.{decimal_digit}

abbrev pub AreDigits : List ℕ → Type 0
AreDigits ds = (i : ℕ) → i < length ds → IsInRange 48 57 (get_or ds i 0)

-- the number of the digits, after those of n
abbrev pub read_on : ℕ → List ℕ → ℕ
read_on n [] = n
read_on n (c ∷ cs) = read_on (n * 10 + (c - 48)) cs

pub own : IsNumeralModel AreDigits (read_on 0)
own = numerals_by_fold _ tells_by_index read_on (record { empty = λ n. refl; more = λ n c cs h. refl })

pub grows : (n : ℕ) (cs : List ℕ) → n ≤ read_on n cs
grows n [] = omega arith
grows n (c ∷ cs) = omega (arith, grows (n * 10 + (c - 48)) cs)

pub zero_text : decimal 0 ≡ 48 ∷ []
zero_text = decimal_digit 0 (lit< tt)
