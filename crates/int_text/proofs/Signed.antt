-- Decimal text of signed numbers.
use Rattle.std.proofs.Common.{◌≡◌, ◌≢◌, ℕ, ◌<◌, ◌≤◌, ◌^◌, List, [], ◌∷◌, length, get_or, drop, take, zero, suc, inl, inr, sym, ap, subst, arith, ◌∙◌, ◌-◌, lit<}
use Rattle.std.proofs.lemmas.Bool.{cases_lt}
use Rattle.std.proofs.lemmas.List.{take_all}
use Rattle.std.proofs.lemmas.Int.{ints}
use Rattle.std.specs.Prelude.{ℤ, pos, negsuc, ◌+ℤ◌, ◌-ℤ◌, Option, Some, None, FitsSigned, SomeIff, IfNone}
use Rattle.std.specs.Fmt.{decimal}
use Rattle.std.specs.Int.{w64}
use Rattle.std.specs.Str.Parse.{AllDigits}
use Rattle.int_text.specs.Decimal.{canonical, IsI64Text, Reads, PrintedIsReadBack}
use Rattle.std.proofs.lemmas.Str.Parse.{digit_from_value}
use Rattle.std.proofs.lemmas.Fmt.{decimal_is_IsNumeral, decimal_injective, signed_decimal_injective, decimal_nonempty, length-decimal-le}

-- two numbers never share a text
pub canonical_injective : (m n : ℤ) → FitsSigned w64 m → FitsSigned w64 n → canonical m ≡ canonical n → m ≡ n
canonical_injective m n fits_m fits_n e = signed_decimal_injective m n fits_m.sfits fits_n.sfits e

-- a text has one byte at least, and 20 at most
pub canonical_length : (n : ℤ) → FitsSigned w64 n → (1 ≤ length (canonical n)) × (length (canonical n) ≤ 20)
canonical_length (pos n) fits = (
  omega (arith, fits.sfits, decimal_nonempty n (omega (arith, fits.sfits))),
  omega
      (arith, fits.sfits, length-decimal-le 19 n (lit< tt) (omega (arith, fits.sfits)) (omega (arith, fits.sfits))),
)
canonical_length (negsuc n) fits = (omega arith, omega (arith, length-decimal-le 19 (suc n) (lit< tt) (omega (arith, fits.sfits)) (omega (arith, fits.sfits))))

read_back : (n : ℤ) → FitsSigned w64 n → (answer : Option ℤ) → Reads (canonical n) answer → answer ≡ Some n
read_back n fits None r = absurd (r.1 (n, fits, λ _. canonical n))
read_back n fits (Some m) r = ap Some (canonical_injective m n r.0.0 fits (sym r.0.1))

pub printed_read_back : PrintedIsReadBack
printed_read_back = record { number = read_back; only = λ text n r. r.0.1 }

-- no number without a sign begins with a minus sign
minus_first : (n : ℕ) (ds : List ℕ) → n < 2 ^ 64 → decimal n ≢ 45 ∷ ds
minus_first n ds h e = omega (arith, digit_from_value 45 (subst (AllDigits 10) e (decimal_is_IsNumeral n h).0.1).0)

-- a minus sign and a text that is no number
pub minus_none : (ds : List ℕ) → ((n : ℕ) → n < 2 ^ 64 → ds ≢ decimal n) → ¬ (IsI64Text (45 ∷ ds))
minus_none ds none (pos n, fits, is) = minus_first n ds (omega (arith, fits.sfits)) (sym is)
minus_none ds none (negsuc n, fits, is) = none (suc n) (omega (arith, fits.sfits)) (ap (drop 1) is)

-- a minus sign and a number that is 0, or below the least one
pub minus_some : (ds : List ℕ) (m : ℕ) → m < 2 ^ 64 → ds ≡ decimal m → ((k : ℕ) → k < 2 ^ 63 → m ≢ suc k) → ¬ (IsI64Text (45 ∷ ds))
minus_some ds m small text out (pos n, fits, is) = minus_first n ds (omega (arith, fits.sfits)) (sym is)
minus_some ds m small text out (negsuc n, fits, is) =
    out n fits.sfits (decimal_injective m (suc n) small (omega (arith, fits.sfits)) (sym text ∙ ap (drop 1) is))

-- a text without a minus sign that is no number
pub plain_none : (text : List ℕ) → get_or text 0 0 ≢ 45 → ((n : ℕ) → n < 2 ^ 64 → text ≢ decimal n) → ¬ (IsI64Text text)
plain_none text plain none (pos n, fits, is) = none n (omega (arith, fits.sfits)) is
plain_none text plain none (negsuc n, fits, is) = plain (ap (λ l. get_or l 0 0) is)

-- a number above the greatest one
pub plain_large : (text : List ℕ) (m : ℕ) → m < 2 ^ 64 → get_or text 0 0 ≢ 45 → text ≡ decimal m → 2 ^ 63 ≤ m → ¬ (IsI64Text text)
plain_large text m small plain is_m large (pos n, fits, is) =
    omega (arith, fits.sfits, decimal_injective m n small (omega (arith, fits.sfits)) (sym is_m ∙ is))
plain_large text m small plain is_m large (negsuc n, fits, is) = plain (ap (λ l. get_or l 0 0) is)

-- a text is its first byte and the others
pub first_split : (b : ℕ) (text : List ℕ) → 1 ≤ length text → get_or text 0 0 ≡ b → text ≡ b ∷ take (length text - 1) (drop 1 text)
first_split b [] some first = absurd (omega arith)
first_split b (c ∷ cs) some first =
    let n : length (c ∷ cs) - 1 ≡ length cs = omega arith in
    let rest : cs ≡ take (length (c ∷ cs) - 1) cs = sym (take_all (length (c ∷ cs) - 1) cs (omega arith)) in
    ap (λ x. x ∷ cs) first ∙ ap (λ l. b ∷ l) rest

pub no_first : (b : ℕ) (text : List ℕ) → 0 < b → length text < 1 → get_or text 0 0 ≢ b
no_first b [] some short e = omega arith
no_first b (c ∷ cs) some short e = omega arith

-- what a subtraction from 0 that does not fit says of the number
pub below_least : (m : ℕ) → m ≢ 0 → ¬ (FitsSigned w64 (pos 0 -ℤ pos m)) → (k : ℕ) → k < 2 ^ 63 → m ≢ suc k
below_least zero some out k small is = some (λ _. 0)
below_least (suc m) some out k small is = out (record { sfits = omega (arith, ints) })

pub above_greatest : (m : ℕ) → ¬ (FitsSigned w64 (pos 0 +ℤ pos m)) → 2 ^ 63 ≤ m
above_greatest m out =
    elim (cases_lt m (2 ^ 63)) [ inl small ↦ absurd (out (record { sfits = omega (arith, ints) })) | inr large ↦ large ]

pub no_difference : (r : Option ℤ) (m : ℕ) → m ≢ 0 → SomeIff r (FitsSigned w64 (pos 0 -ℤ pos m)) (pos 0 -ℤ pos m) → {P : Type 0} → (((k : ℕ) → k < 2 ^ 63 → m ≢ suc k) → P) → IfNone r P
no_difference None m some h p = p (below_least m some h)
no_difference (Some d) m some h p = tt

pub no_sum : (r : Option ℤ) (m : ℕ) → SomeIff r (FitsSigned w64 (pos 0 +ℤ pos m)) (pos 0 +ℤ pos m) → {P : Type 0} → (2 ^ 63 ≤ m → P) → IfNone r P
no_sum None m h p = p (above_greatest m h)
no_sum (Some d) m h p = tt
