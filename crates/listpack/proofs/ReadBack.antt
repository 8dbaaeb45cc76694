-- The writer's spelling is read back as the element.
use Rattle.std.proofs.Common.{◌≡◌, ℕ, ◌+◌, ◌-◌, ◌*◌, ◌/◌, ◌%◌, ◌^◌, ◌<◌, Bool, true, false, List, [], ◌∷◌, ◌++◌, length, refl, sym, ap, subst, ◌∙◌, length-append, inl, inr, arith}
use Rattle.std.specs.Prelude.{ℤ, pos, negsuc, Some, None}
use Rattle.std.specs.Int.{w64}
use Rattle.std.specs.Fmt.{signed_decimal}
use Rattle.std.proofs.lemmas.Bool.{ltb-true}
use Rattle.std.proofs.lemmas.Bool.Decides.{nat_tests}
use Rattle.std.proofs.lemmas.Int.{ints}
use Rattle.std.proofs.lemmas.Bool.{cases_lt}
use Rattle.std.proofs.lemmas.List.{append-nil, drop_at}
use Rattle.byteorder.specs.Endian.{little_bytes, little_number, low_bytes, twos_complement}
use Rattle.byteorder.specs.Numbers.{length-bytes_low_first, little_number-reads_back}
use Rattle.listpack.specs.Entry.{Signed, encoding_of, IsSpelling, text_of, thirteen_bits}
use Rattle.listpack.proofs.Encodings.{needed_small_number, needed_short_text, needed_thirteen_bits, needed_medium_text, needed_long_text, needed_signed, text_by_encoding}
use Rattle.listpack.proofs.Encodings.{text_small_number, text_short_text, text_thirteen_bits, text_medium_text, text_long_text}
use Rattle.int_text.specs.Decimal.{canonical}
use Rattle.listpack.specs.Writing.{magnitude, is_small, thirteen_low, number_spelling, text_head, spelling}
use Rattle.listpack.proofs.Writings.{number_thirteen, number_two, number_three, number_four, number_eight, head_short, head_medium, head_long, number_cases, spelling_as}

-- a spelling of this text
abbrev pub Spelled : List ℕ → List ℕ → Type 0
Spelled text s = IsSpelling s × (text_of s ≡ text)

-- the lowest bytes of a number that they hold, read back
low_two : (n : ℤ) → magnitude n < 2 ^ 15 → (low_bytes w64 2 n < 256 ^ 2) × (twos_complement 2 (low_bytes w64 2 n) ≡ n)
low_two (pos m) h = (omega arith, grind (arith, ints, nat_tests))
low_two (negsuc m) h = (omega arith, grind (arith, ints, nat_tests))

low_three : (n : ℤ) → magnitude n < 2 ^ 23 → (low_bytes w64 3 n < 256 ^ 3) × (twos_complement 3 (low_bytes w64 3 n) ≡ n)
low_three (pos m) h = (omega arith, grind (arith, ints, nat_tests))
low_three (negsuc m) h = (omega arith, grind (arith, ints, nat_tests))

low_four : (n : ℤ) → magnitude n < 2 ^ 31 → (low_bytes w64 4 n < 256 ^ 4) × (twos_complement 4 (low_bytes w64 4 n) ≡ n)
low_four (pos m) h = (omega arith, grind (arith, ints, nat_tests))
low_four (negsuc m) h = (omega arith, grind (arith, ints, nat_tests))

low_eight : (n : ℤ) → magnitude n < 2 ^ 63 → (low_bytes w64 8 n < 256 ^ 8) × (twos_complement 8 (low_bytes w64 8 n) ≡ n)
low_eight (pos m) h = (omega arith, grind (arith, ints, nat_tests))
low_eight (negsuc m) h = (omega arith, grind (arith, ints, nat_tests))

-- a number of k bytes behind its encoding
signed_spelled : (b k : ℕ) (n : ℤ) → encoding_of b ≡ Signed k → low_bytes w64 k n < 256 ^ k → twos_complement k (low_bytes w64 k n) ≡ n → Spelled (canonical n) (b ∷ little_bytes k (low_bytes w64 k n))
signed_spelled b k n e small back =
    let x = low_bytes w64 k n in
    let more = little_bytes k x in
    let size : length more ≡ k = length-bytes_low_first 0 k x in
    let read : little_number k more ≡ x = ap (little_number k) (sym (append-nil more)) ∙ little_number-reads_back k x [] small in (
      omega (arith, size, needed_signed b k more e),
      text_by_encoding b more (Signed k) e ∙ ap (λ (y : ℕ). signed_decimal (twos_complement k y)) read ∙ ap signed_decimal back,
    )

thirteen_back : (n : ℤ) → magnitude n < 4096 → (thirteen_low n < 8192) × (thirteen_bits (thirteen_low n) ≡ n)
thirteen_back (pos m) h = (omega arith, grind (arith, ints, nat_tests))
thirteen_back (negsuc m) h = (omega arith, grind (arith, ints, nat_tests))

thirteen_spelled : (n : ℤ) → magnitude n < 4096 → Spelled (canonical n) ((0xC0 + thirteen_low n / 256) ∷ thirteen_low n % 256 ∷ [])
thirteen_spelled n h =
    let x = thirteen_low n in
    let t = thirteen_back n h in
    let b : ℕ = 0xC0 + x / 256 in
    let more : List ℕ = x % 256 ∷ [] in
    let size = needed_thirteen_bits b more (omega arith) (omega (arith, t.0)) in
    let whole : (b - 192) * 256 + x % 256 ≡ x = omega arith in
    (omega (arith, size), text_thirteen_bits b more (omega arith) (omega (arith, t.0)) ∙ ap (λ (y : ℕ). signed_decimal (thirteen_bits y)) whole ∙ ap signed_decimal t.1)

small_spelled : (n : ℤ) → is_small n ≡ true → Spelled (canonical n) (magnitude n ∷ [])
small_spelled (pos m) e =
    let h : m < 128 = ltb-true m 128 e in
    let size = needed_small_number m [] h in
    (omega (arith, size), text_small_number m [] h)
small_spelled (negsuc m) e = cc

small_is : (n : ℤ) → is_small n ≡ true → number_spelling n ≡ magnitude n ∷ []
unfolding number_spelling
small_is n e = rw e refl

pub number_spelled : (n : ℤ) → magnitude n < 2 ^ 63 → Spelled (canonical n) (number_spelling n)
number_spelled n h = elim (cases_lt (magnitude n) 4096) [
  | inl a ↦ by_size n a (is_small n) refl
  | inr a ↦ elim (cases_lt (magnitude n) 32768) [
    | inl b ↦ let t = low_two n b in subst (Spelled (canonical n)) (sym (number_two n a b)) (signed_spelled 0xF1 2 n refl t.0 t.1)
    | inr b ↦ elim (cases_lt (magnitude n) 8388608) [
      | inl d ↦ let t = low_three n d in subst (Spelled (canonical n)) (sym (number_three n b d)) (signed_spelled 0xF2 3 n refl t.0 t.1)
      | inr d ↦ elim (cases_lt (magnitude n) 2147483648) [
        | inl e ↦ let t = low_four n e in subst (Spelled (canonical n)) (sym (number_four n d e)) (signed_spelled 0xF3 4 n refl t.0 t.1)
        | inr e ↦ let t = low_eight n h in subst (Spelled (canonical n)) (sym (number_eight n e)) (signed_spelled 0xF4 8 n refl t.0 t.1)
      ]
    ]
  ]
]
  where
    by_size : (n : ℤ) → magnitude n < 4096 → (b : Bool) → is_small n ≡ b → Spelled (canonical n) (number_spelling n)
    by_size n a true e = subst (Spelled (canonical n)) (sym (small_is n e)) (small_spelled n e)
    by_size n a false e = subst (Spelled (canonical n)) (sym (number_thirteen n e a)) (thirteen_spelled n a)

pub text_spelled : (text : List ℕ) → length text < 2 ^ 32 → Spelled text (text_head (length text) ++ text)
text_spelled text h = elim (cases_lt (length text) 64) [
  | inl a ↦
      let n = length text in
      let b : ℕ = 0x80 + n in
      let size = needed_short_text b text (omega arith) (omega arith) in
      subst (λ (x : List ℕ). Spelled text (x ++ text)) (sym (head_short n a)) (omega (arith, size), text_short_text b text (omega arith) (omega arith))
  | inr a ↦ elim (cases_lt (length text) 4096) [
    | inl d ↦
        let n = length text in
        let b : ℕ = 0xE0 + n / 256 in
        let more : List ℕ = n % 256 ∷ text in
        let size = needed_medium_text b more (omega arith) (omega arith) in
        subst (λ (x : List ℕ). Spelled text (x ++ text)) (sym (head_medium n a d)) (omega (arith, size), text_medium_text b more (omega arith) (omega arith))
    | inr d ↦
        let n = length text in
        let field = little_bytes 4 n in
        let more : List ℕ = field ++ text in
        let size = needed_long_text 0xF0 more refl in
        let told = little_number-reads_back 4 n text (omega arith) in
        let four = length-bytes_low_first 0 4 n in
        subst (λ (x : List ℕ). Spelled text (x ++ text)) (sym (head_long n d))
        (omega (arith, size, told, four, length-append field text), text_long_text 0xF0 more refl ∙ drop_at field text 4 four)
  ]
]

-- the writer's spelling is one of the element
pub spelled : (text : List ℕ) → length text < 2 ^ 32 → Spelled text (spelling text)
spelled text h = elim (number_cases text) [
  | inl none ↦ subst (Spelled text) (sym (spelling_as text None none)) (text_spelled text h)
  | inr some ↦
      subst (Spelled text) (sym (spelling_as text (Some some.0) some.1)) (subst (λ (x : List ℕ). Spelled x (number_spelling some.0)) (sym some.3) (number_spelled some.0 some.2))
]
