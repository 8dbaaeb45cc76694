-- What a first byte asks for, by its range.
use Rattle.std.proofs.Common.{◌≡◌, ℕ, ◌+◌, ◌-◌, ◌*◌, ◌<◌, ◌≤◌, List, [], ◌∷◌, length, slice_index, refl, sym, arith, inl, inr, ◌⊎◌}
use Rattle.std.proofs.lemmas.Bool.Decides.{nat_tests}
use Rattle.std.proofs.lemmas.Bool.{cases_eq}
use Rattle.std.specs.Prelude.{pos, drop}
use Rattle.std.specs.Fmt.{signed_decimal}
use Rattle.byteorder.specs.Endian.{little_number, twos_complement}
use Rattle.listpack.specs.Entry.{Encoding, SmallNumber, ShortText, ThirteenBits, MediumText, LongText, Signed, NoEncoding, encoding_of, needed, needed_by, IsSpelling, text_of, text_by, thirteen_bits}

pub is_small_number : (b : ℕ) → b < 128 → encoding_of b ≡ SmallNumber
is_small_number b h = grind (arith, nat_tests)

pub is_short_text : (b : ℕ) → 128 ≤ b → b < 192 → encoding_of b ≡ ShortText
is_short_text b l h = grind (arith, nat_tests)

pub is_thirteen_bits : (b : ℕ) → 192 ≤ b → b < 224 → encoding_of b ≡ ThirteenBits
is_thirteen_bits b l h = grind (arith, nat_tests)

pub is_medium_text : (b : ℕ) → 224 ≤ b → b < 240 → encoding_of b ≡ MediumText
is_medium_text b l h = grind (arith, nat_tests)

pub is_no_encoding : (b : ℕ) → 245 ≤ b → encoding_of b ≡ NoEncoding
is_no_encoding b l = grind (arith, nat_tests)

pub needed_by_encoding : (b : ℕ) (more : List ℕ) (e : Encoding) → encoding_of b ≡ e → needed (b ∷ more) ≡ needed_by e b more
unfolding needed
needed_by_encoding b more e h = rw h refl

pub needed_small_number : (b : ℕ) (more : List ℕ) → b < 128 → needed (b ∷ more) ≡ 1
needed_small_number b more h = needed_by_encoding b more SmallNumber (is_small_number b h)

pub needed_short_text : (b : ℕ) (more : List ℕ) → 128 ≤ b → b < 192 → needed (b ∷ more) ≡ 1 + (b - 128)
needed_short_text b more l h = needed_by_encoding b more ShortText (is_short_text b l h)

pub needed_thirteen_bits : (b : ℕ) (more : List ℕ) → 192 ≤ b → b < 224 → needed (b ∷ more) ≡ 2
needed_thirteen_bits b more l h = needed_by_encoding b more ThirteenBits (is_thirteen_bits b l h)

pub needed_medium_text : (b : ℕ) (more : List ℕ) → 224 ≤ b → b < 240 → needed (b ∷ more) ≡ 2 + ((b - 224) * 256 + slice_index more 0)
needed_medium_text b more l h = needed_by_encoding b more MediumText (is_medium_text b l h)

pub needed_long_text : (b : ℕ) (more : List ℕ) → b ≡ 240 → needed (b ∷ more) ≡ 5 + little_number 4 more
needed_long_text b more h = rw h (needed_by_encoding 240 more LongText refl)

pub needed_signed : (b n : ℕ) (more : List ℕ) → encoding_of b ≡ Signed n → needed (b ∷ more) ≡ 1 + n
needed_signed b n more h = needed_by_encoding b more (Signed n) h

pub needed_no_encoding : (b : ℕ) (more : List ℕ) → 245 ≤ b → needed (b ∷ more) ≡ 2 + length more
needed_no_encoding b more l = needed_by_encoding b more NoEncoding (is_no_encoding b l)

pub needed_two : (b : ℕ) (more : List ℕ) → b ≡ 241 → needed (b ∷ more) ≡ 3
needed_two b more h = rw h (needed_by_encoding 241 more (Signed 2) refl)

pub needed_three : (b : ℕ) (more : List ℕ) → b ≡ 242 → needed (b ∷ more) ≡ 4
needed_three b more h = rw h (needed_by_encoding 242 more (Signed 3) refl)

pub needed_four : (b : ℕ) (more : List ℕ) → b ≡ 243 → needed (b ∷ more) ≡ 5
needed_four b more h = rw h (needed_by_encoding 243 more (Signed 4) refl)

pub needed_eight : (b : ℕ) (more : List ℕ) → b ≡ 244 → needed (b ∷ more) ≡ 9
needed_eight b more h = rw h (needed_by_encoding 244 more (Signed 8) refl)

pub ruleset sizes = (arith, needed_small_number, needed_short_text, needed_thirteen_bits, needed_medium_text, needed_long_text, needed_two, needed_three, needed_four, needed_eight, needed_no_encoding)

pub text_by_encoding : (b : ℕ) (more : List ℕ) (e : Encoding) → encoding_of b ≡ e → text_of (b ∷ more) ≡ text_by e b more
unfolding text_of
text_by_encoding b more e h = rw h refl

pub text_small_number : (b : ℕ) (more : List ℕ) → b < 128 → text_of (b ∷ more) ≡ signed_decimal (pos b)
text_small_number b more h = text_by_encoding b more SmallNumber (is_small_number b h)

pub text_short_text : (b : ℕ) (more : List ℕ) → 128 ≤ b → b < 192 → text_of (b ∷ more) ≡ more
text_short_text b more l h = text_by_encoding b more ShortText (is_short_text b l h)

pub text_thirteen_bits : (b : ℕ) (more : List ℕ) → 192 ≤ b → b < 224 → text_of (b ∷ more) ≡ signed_decimal (thirteen_bits ((b - 192) * 256 + slice_index more 0))
text_thirteen_bits b more l h = text_by_encoding b more ThirteenBits (is_thirteen_bits b l h)

pub text_medium_text : (b : ℕ) (more : List ℕ) → 224 ≤ b → b < 240 → text_of (b ∷ more) ≡ drop 1 more
text_medium_text b more l h = text_by_encoding b more MediumText (is_medium_text b l h)

pub text_long_text : (b : ℕ) (more : List ℕ) → b ≡ 240 → text_of (b ∷ more) ≡ drop 4 more
text_long_text b more h = rw h (text_by_encoding 240 more LongText refl)

length_of : (b n : ℕ) (more : List ℕ) → encoding_of b ≡ Signed n → IsSpelling (b ∷ more) → length more ≡ n
length_of b n more h own = let e = needed_signed b n more h in omega (arith, e, own)

signed_by : (b n : ℕ) (more : List ℕ) → encoding_of b ≡ Signed n → length more ≡ n
    → text_of (b ∷ more) ≡ signed_decimal (twos_complement (length more) (little_number (length more) more))
signed_by b n more h l = rw l (text_by_encoding b more (Signed n) h)

-- the signed numbers, by the bytes that stand there
pub text_signed : (b : ℕ) (more : List ℕ) → 241 ≤ b → IsSpelling (b ∷ more) → text_of (b ∷ more) ≡ signed_decimal (twos_complement (length more) (little_number (length more) more))
text_signed b more l h = elim (cases_eq b 241) [
  | inl e ↦ let own = rw e at h in rw e (signed_by 241 2 more refl (length_of 241 2 more refl own))
  | inr n1 ↦ elim (cases_eq b 242) [
    | inl e ↦ let own = rw e at h in rw e (signed_by 242 3 more refl (length_of 242 3 more refl own))
    | inr n2 ↦ elim (cases_eq b 243) [
      | inl e ↦ let own = rw e at h in rw e (signed_by 243 4 more refl (length_of 243 4 more refl own))
      | inr n3 ↦ elim (cases_eq b 244) [
        | inl e ↦ let own = rw e at h in rw e (signed_by 244 8 more refl (length_of 244 8 more refl own))
        | inr n4 ↦ let e = needed_no_encoding b more (omega arith) in absurd (omega (arith, h, e))
      ]
    ]
  ]
]

pub ruleset contents = (sizes, text_small_number, text_short_text, text_thirteen_bits, text_medium_text, text_long_text, text_signed)
