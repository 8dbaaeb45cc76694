-- The writer's spelling.
use Rattle.std.proofs.Common.{◌≡◌, ◌≢◌, ℕ, zero, suc, ◌+◌, ◌-◌, ◌*◌, ◌/◌, ◌%◌, ◌^◌, ◌<◌, ◌≤◌, Bool, true, false, cond, eqb, ◌&&◌, ◌⊎◌, List, [], ◌∷◌, ◌++◌, length, take, drop, get_or}
use Rattle.std.proofs.Common.{slice_index, refl, sym, ap, subst, ◌∙◌, length-append, inl, inr, arith}
use Rattle.std.specs.Prelude.{ℤ, pos, negsuc, Option, Some, None, FitsSigned, ◌≤ℤ◌, ◌<ℤ◌}
use lib.Signed.{mag}
use Rattle.std.specs.Int.{w64}
use Rattle.std.proofs.lemmas.Bool.Decides.{nat_tests}
use Rattle.std.proofs.lemmas.Int.{ints}
use Rattle.std.proofs.lemmas.Fmt.{length_signed_le}
use Rattle.byteorder.specs.Endian.{little_bytes, low_bytes}
use Rattle.int_text.specs.Decimal.{canonical, number_of}
use Rattle.int_text.proofs.NumberOf.{number_cases as text_cases}
use Rattle.listpack.specs.Writing.{magnitude, is_small, thirteen_low, number_spelling, text_head, spelling, spelling_by}

pub number_small : (n : ℤ) → pos 0 ≤ℤ n → magnitude n < 128 → number_spelling n ≡ magnitude n ∷ []
unfolding number_spelling
number_small (pos m) l h = grind (arith, nat_tests)
number_small (negsuc m) l h = absurd (omega (arith, ints, l))

pub number_thirteen : (n : ℤ) → is_small n ≡ false → magnitude n < 4096 → number_spelling n ≡ (0xC0 + thirteen_low n / 256) ∷ thirteen_low n % 256 ∷ []
unfolding number_spelling
number_thirteen n l h = grind (arith, nat_tests)

pub number_thirteen_pos : (n : ℤ) → 128 ≤ magnitude n → magnitude n < 4096 → number_spelling n ≡ (0xC0 + thirteen_low n / 256) ∷ thirteen_low n % 256 ∷ []
number_thirteen_pos (pos m) l h = number_thirteen (pos m) (grind (arith, nat_tests)) h
number_thirteen_pos (negsuc m) l h = number_thirteen (negsuc m) refl h

pub number_thirteen_neg : (n : ℤ) → n <ℤ pos 0 → magnitude n < 4096 → number_spelling n ≡ (0xC0 + thirteen_low n / 256) ∷ thirteen_low n % 256 ∷ []
number_thirteen_neg (pos m) l h = absurd (omega (arith, ints, l))
number_thirteen_neg (negsuc m) l h = number_thirteen (negsuc m) refl h

large : (n : ℤ) → 4096 ≤ magnitude n → is_small n ≡ false
large (pos m) h = grind (arith, nat_tests)
large (negsuc m) h = refl

pub number_two : (n : ℤ) → 4096 ≤ magnitude n → magnitude n < 32768 → number_spelling n ≡ 0xF1 ∷ little_bytes 2 (low_bytes w64 2 n)
unfolding number_spelling
number_two n l h = let e = large n l in grind (arith, nat_tests)

pub number_three : (n : ℤ) → 32768 ≤ magnitude n → magnitude n < 8388608 → number_spelling n ≡ 0xF2 ∷ little_bytes 3 (low_bytes w64 3 n)
unfolding number_spelling
number_three n l h = let e = large n (omega arith) in grind (arith, nat_tests)

pub number_four : (n : ℤ) → 8388608 ≤ magnitude n → magnitude n < 2147483648 → number_spelling n ≡ 0xF3 ∷ little_bytes 4 (low_bytes w64 4 n)
unfolding number_spelling
number_four n l h = let e = large n (omega arith) in grind (arith, nat_tests)

pub number_eight : (n : ℤ) → 2147483648 ≤ magnitude n → number_spelling n ≡ 0xF4 ∷ little_bytes 8 (low_bytes w64 8 n)
unfolding number_spelling
number_eight n l = let e = large n (omega arith) in grind (arith, nat_tests)

pub ruleset numbers = (arith, number_small, number_thirteen_pos, number_thirteen_neg, number_two, number_three, number_four, number_eight)

pub head_short : (n : ℕ) → n < 64 → text_head n ≡ (0x80 + n) ∷ []
unfolding text_head
head_short n h = grind (arith, nat_tests)

pub head_medium : (n : ℕ) → 64 ≤ n → n < 4096 → text_head n ≡ (0xE0 + n / 256) ∷ n % 256 ∷ []
unfolding text_head
head_medium n l h = grind (arith, nat_tests)

pub head_long : (n : ℕ) → 4096 ≤ n → text_head n ≡ 0xF0 ∷ little_bytes 4 n
unfolding text_head
head_long n l = grind (arith, nat_tests)

pub ruleset heads = (arith, head_short, head_medium, head_long)

fits_from : (n : ℤ) → magnitude n < 2 ^ 63 → FitsSigned w64 n
fits_from (pos m) h = record { sfits = h }
fits_from (negsuc m) h = record { sfits = h }

magnitude_from : (n : ℤ) → FitsSigned w64 n → magnitude n < 2 ^ 63
magnitude_from (pos m) f = f.sfits
magnitude_from (negsuc m) f = f.sfits

-- a text is that of a number, or of none
pub number_cases : (text : List ℕ) → (number_of text ≡ None) ⊎ ((n : ℤ) × (number_of text ≡ Some n) × (magnitude n < 2 ^ 63) × (text ≡ canonical n))
number_cases text = elim (text_cases text) [
  | inl none ↦ inl none
  | inr some ↦ inr (some.0, some.1, magnitude_from some.0 some.2, some.3)
]

pub spelling_as : (text : List ℕ) (o : Option ℤ) → number_of text ≡ o → spelling text ≡ spelling_by o text
unfolding spelling
spelling_as text o e = ap (λ (x : Option ℤ). spelling_by x text) e

canonical_short : (n : ℤ) → magnitude n < 2 ^ 63 → length (canonical n) ≤ 20
canonical_short n h = let f = fits_from n h in length_signed_le 19 n (short n h) f.sfits
  where
    short : (n : ℤ) → magnitude n < 2 ^ 63 → mag n + 1 < 10 ^ 19
    short (pos m) h = omega arith
    short (negsuc m) h = omega arith

-- no element is far longer than its spelling
pub element_short : (text : List ℕ) → length (spelling text) < 2 ^ 32 → length text < 2 ^ 32
element_short text h = elim (number_cases text) [
  | inl none ↦ let e = spelling_as text None none in omega (arith, h, ap length e, length-append (text_head (length text)) text)
  | inr some ↦ let e = canonical_short some.0 some.2 in omega (arith, e, ap length some.3)
]
