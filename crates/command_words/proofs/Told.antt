-- What words tell, from what reading them answers.
use Rattle.std.proofs.Common.{◌≡◌, ℕ, ◌<◌, List, [], ◌∷◌, length, Bool, true, false, Option, Some, None, Ok, Err, ap, sym, ◌∙◌, w64, refl, arith}
use Rattle.std.specs.Prelude.{ℤ, FitsSigned, SomeIff, ◌&&◌, ◌^◌, nat_lt, if◌then◌else◌}
use Rattle.std.specs.Str.{all_ascii_digits}
use Rattle.std.specs.Str.Parse.{digits_value}
use Rattle.std.proofs.lemmas.Bool.{lt-ltb, ltb-true}
use Rattle.std.proofs.lemmas.Str.Parse.{IsNumeralModel, numerals_by_value, tells_all_ascii_digits}
use Rattle.int_text.specs.Decimal.{canonical, IsU64Text}
use Rattle.plain_world.specs.Words.{Words}
use Rattle.plain_model.specs.StringWords.{pairs_of}
use Rattle.plain_model.specs.IdTexts.{id_part}
use Rattle.plain_model.specs.Shapes.{Whole, Cursor, told, whole, are_digits}
use Rattle.plain_world.specs.declared.refusal.Refusal.TheVariants.{InvalidCursor}
use Rattle.int_text.proofs.NumberOf.{reads_number_of}

pub both : (a b : Bool) → (a && b) ≡ true → (a ≡ true) × (b ≡ true)
both true b e = (refl, e)
both false b e = cc

pub number_told : (word : List ℕ) (n : ℤ) → FitsSigned w64 n → word ≡ canonical n → told Whole word ≡ Ok n
number_told word n fits e = ap whole (reads_number_of word (Some n) ((fits, e), tt))

-- what the definition's test of digits tells
abbrev pub digits : IsNumeralModel (λ ds. all_ascii_digits ds ≡ true) (digits_value 10)
digits = numerals_by_value (λ ds. all_ascii_digits ds ≡ true) tells_all_ascii_digits

-- the definition's test of a cursor is true of just the digits of a number of 64 bits
passes : (word : List ℕ) → IsU64Text word → (are_digits word && nat_lt (digits_value 10 word) (2 ^ 64)) ≡ true
passes word is = rw (lt-ltb 0 (length word) is.0.0, digits.from word is.0.1, lt-ltb (digits_value 10 word) (2 ^ 64) is.1) refl

passing : (word : List ℕ) → (are_digits word && nat_lt (digits_value 10 word) (2 ^ 64)) ≡ true → IsU64Text word
passing word e =
    let parts = both (are_digits word) (nat_lt (digits_value 10 word) (2 ^ 64)) e in
    let own = both (nat_lt 0 (length word)) (all_ascii_digits word) parts.0 in
    ((ltb-true 0 (length word) own.0, digits.to word own.1), ltb-true (digits_value 10 word) (2 ^ 64) parts.1)

pub cursor_told : (word : List ℕ) (n : ℕ) → IsU64Text word → n ≡ digits_value 10 word → told Cursor word ≡ Ok n
cursor_told word n is value = ap (λ b. if b then Ok (digits_value 10 word) else Err InvalidCursor) (passes word is) ∙ ap Ok (sym value)

pub no_cursor_told : (word : List ℕ) → ¬ (IsU64Text word) → told Cursor word ≡ Err InvalidCursor
no_cursor_told word none =
    let test : Bool = are_digits word && nat_lt (digits_value 10 word) (2 ^ 64) in
    elim test as (λ b. test ≡ b → (if b then Ok (digits_value 10 word) else Err InvalidCursor) ≡ Err InvalidCursor) [
      | true ↦ λ e. absurd (none (passing word e))
      | false ↦ λ e. refl
    ] refl

-- one of the two numbers of an id
part_told : (text : List ℕ) (n : ℕ) → IsU64Text text → n ≡ digits_value 10 text → id_part text ≡ Some n
part_told text n is value = ap (λ b. if b then Some (digits_value 10 text) else None) (passes text is) ∙ ap Some (sym value)

no_part_told : (text : List ℕ) → ¬ (IsU64Text text) → id_part text ≡ None
no_part_told text none =
    let test : Bool = are_digits text && nat_lt (digits_value 10 text) (2 ^ 64) in
    elim test as (λ b. test ≡ b → (if b then Some (digits_value 10 text) else None) ≡ None) [
      | true ↦ λ e. absurd (none (passing text e))
      | false ↦ λ e. refl
    ] refl

pub part_is : (text : List ℕ) (answer : Option ℕ) → SomeIff answer (IsU64Text text) (digits_value 10 text) → answer ≡ id_part text
part_is text (Some n) h = sym (part_told text n h.0 h.1)
part_is text None h = sym (no_part_told text h)

-- fewer than two words make no pair
pub no_pairs : (words : Words) → length words < 2 → pairs_of words ≡ []
no_pairs [] h = refl
no_pairs (key ∷ []) h = refl
no_pairs (key ∷ value ∷ words) h = absurd (omega arith)
