-- Canonical numbers are read.
use Rattle.std.proofs.Common.{◌≡◌, ◌==◌, ℕ, zero, suc, ◌<◌, ◌≤◌, ◌^◌, List, [], ◌∷◌, true, false, Option, Some, None, ap, sym, ◌∙◌, refl, arith, inl, inr, lit<, lit≤}
use Rattle.std.specs.Prelude.{if◌then◌else◌, bytes_eq, nat_le, ◌&&◌}
use Rattle.std.specs.Fmt.{decimal}
use Rattle.std.specs.Str.Parse.{digits_value}
use Rattle.std.proofs.lemmas.Bool.{and_parts, and_from, leb-true, le-leb, eqb-true}
use Rattle.std.proofs.lemmas.Fmt.{decimal_is_IsNumeral, digits_decimal}
use Rattle.std.proofs.lemmas.Slice.Eq.{bytes_eq-Decides}
use Rattle.plain_world.proofs.Numerals.{AreDigits, own, zero_text}
use Rattle.resp_frames.specs.Frames.{is_negative, is_positive, IsNoCount, most_words}
use Rattle.resp_frames.specs.Faults.{IsCount, IsLength}
use Rattle.resp_frames.specs.Reading.{read_number, read_count}
use Rattle.resp_frames.proofs.Choices.{chosen, other, by_test}
use Rattle.plain_world.specs.Words.{longest}

pub number_again : (most n : ℕ) → n ≤ most → most < 2 ^ 64 → read_number most (decimal n) ≡ Some n
unfolding read_number
number_again most n le small =
    let fits : n < 2 ^ 64 = omega arith in
    let v : digits_value 10 (decimal n) ≡ n = (decimal_is_IsNumeral n fits).1 in
    ap (λ m. if bytes_eq (decimal n) (decimal m) && nat_le m most then Some m else None) v
    ∙ chosen (bytes_eq (decimal n) (decimal n) && nat_le n most) (Some n) None (and_from _ _ ((bytes_eq-Decides (decimal n) (decimal n)).1 refl) (le-leb n most le))

-- what the reading of a number tells
abbrev pub NumberIs : ℕ → List ℕ → Option ℕ → Type 0
NumberIs most text None = Unit {0}
NumberIs most text (Some n) = (n ≤ most) × (text ≡ decimal n)

pub number_is : (most : ℕ) (text : List ℕ) → NumberIs most text (read_number most text)
unfolding read_number
number_is most text =
    let n = digits_value 10 text in
    by_test (NumberIs most text) (bytes_eq text (decimal n) && nat_le n most) (Some n) None
    (λ e. let p = and_parts _ _ e in (leb-true n most p.1, (bytes_eq-Decides text (decimal n)).0 p.0)) (λ e. tt)

pub not_length : (text : List ℕ) → read_number longest text ≡ None → IsLength text → ⊥
not_length text e h =
    let a : read_number longest text ≡ Some h.0 = ap (read_number longest) h.2 ∙ number_again longest h.0 h.1 (lit< tt) in
    cc

pub length_again : (n : ℕ) → n ≤ longest → read_number longest (decimal n) ≡ Some n
length_again n le = number_again longest n le (lit< tt)

pub length_bad : (text : List ℕ) → (IsLength text → ⊥) → read_number longest text ≡ None
length_bad text h =
    elim (read_number longest text) as (λ r. NumberIs longest text r → r ≡ None) [
      | Some n ↦ λ k. absurd (h (n, k.0, k.1))
      | None ↦ λ k. refl
    ] (number_is longest text)

-- digits don't begin with a minus sign
not_negative : (ds : List ℕ) → AreDigits ds → is_negative ds ≡ false
not_negative [] d = refl
not_negative (x ∷ ds) d =
    let first = d 0 (omega arith) in
    elim (x == 45) as (λ t. x == 45 ≡ t → (t && is_positive ds) ≡ false) [
      | true ↦ λ e. absurd (omega (arith, first, eqb-true x 45 e))
      | false ↦ λ e. refl
    ] refl

decimal_not_negative : (n : ℕ) → n < 2 ^ 64 → is_negative (decimal n) ≡ false
decimal_not_negative n h = not_negative (decimal n) (digits_decimal own n h)

pub count_again : (n : ℕ) → n ≤ most_words → read_count (decimal n) ≡ Some n
unfolding read_count
count_again n le =
    other (is_negative (decimal n)) (Some 0) (read_number most_words (decimal n)) (decimal_not_negative n (omega arith)) ∙ number_again most_words n le (lit< tt)

pub passed_again : (text : List ℕ) → IsNoCount text → read_count text ≡ Some 0
unfolding read_count
passed_again text h = elim h [
  | inl e ↦ ap read_count (e ∙ sym zero_text) ∙ count_again 0 (lit≤ tt)
  | inr e ↦ chosen (is_negative text) (Some 0) (read_number most_words text) e
]

-- what the reading of a number of words tells
abbrev pub CountIs : List ℕ → Option ℕ → Type 0
CountIs text None = Unit {0}
CountIs text (Some zero) = IsNoCount text
CountIs text (Some (suc n)) = (suc n ≤ most_words) × (text ≡ decimal (suc n))

from_number : (text : List ℕ) (r : Option ℕ) → NumberIs most_words text r → CountIs text r
from_number text None h = tt
from_number text (Some zero) h = inl (h.1 ∙ zero_text)
from_number text (Some (suc n)) h = h

pub count_is : (text : List ℕ) → CountIs text (read_count text)
unfolding read_count
count_is text = by_test (CountIs text) (is_negative text) (Some 0) (read_number most_words text) (λ e. inr e) (λ e. from_number text _ (number_is most_words text))

pub not_count : (text : List ℕ) → read_count text ≡ None → IsCount text → ⊥
not_count text e h = elim h [
  | inl k ↦ let a = passed_again text k in cc
  | inr k ↦ let a : read_count text ≡ Some k.0 = ap read_count k.2 ∙ count_again k.0 k.1 in cc
]

pub count_bad : (text : List ℕ) → (IsCount text → ⊥) → read_count text ≡ None
count_bad text h =
    elim (read_count text) as (λ r. CountIs text r → r ≡ None) [
      | Some n ↦ elim n as (λ m. CountIs text (Some m) → Some m ≡ None) [ zero ↦ λ k. absurd (h (inl k)) | suc m ↦ λ k. absurd (h (inr (suc m, k.0, k.1))) ]
      | None ↦ λ k. refl
    ] (count_is text)
