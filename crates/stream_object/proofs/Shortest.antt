-- No spelling of an element is shorter than the writer's.
use Rattle.std.proofs.Common.{◌≡◌, ℕ, zero, suc, ◌+◌, ◌-◌, ◌*◌, ◌/◌, ◌%◌, ◌^◌, ◌<◌, ◌≤◌, Bool, true, false, List, [], ◌∷◌, ◌++◌, length, map, drop, get_or, refl, ap, inl, inr, arith, length-append}
use Rattle.std.specs.Prelude.{ℤ, pos, negsuc, Some, None, FitsSigned}
use Rattle.std.specs.Int.{w64}
use Rattle.std.specs.Fmt.{decimal}
use Rattle.std.specs.List.{All, AllByRecursion}
use Rattle.std.proofs.Math.Nat.{one-le-pow}
use Rattle.std.proofs.lemmas.Bool.{cases_lt}
use Rattle.std.proofs.lemmas.Bool.Decides.{nat_tests}
use Rattle.std.proofs.lemmas.Fmt.{decimal_by_steps}
use Rattle.std.proofs.lemmas.Int.{ints}
use Rattle.std.proofs.lemmas.List.{length-drop}
use Rattle.std.proofs.lemmas.List.Elements.{All-head, All-tail}
use Rattle.byteorder.specs.Endian.{little_number, low_bytes, twos_complement}
use Rattle.byteorder.specs.Numbers.{length-bytes_low_first}
use Rattle.int_text.specs.Decimal.{canonical}
use Rattle.int_text.proofs.NumberOf.{number_back}
use Rattle.int_text.proofs.Signed.{canonical_length}
use Rattle.listpack.specs.Entry.{Signed, encoding_of, IsSpelling, text_of, thirteen_bits, back_length, entry_of, needed}
use Rattle.listpack.specs.Pack.{entries}
use Rattle.listpack.specs.Writing.{magnitude, is_small, number_spelling, text_head, spelling}
use Rattle.listpack.proofs.Backs.{back_one, back_two, back_three, back_four, back_five}
use Rattle.listpack.proofs.Encodings.{needed_short_text, needed_thirteen_bits, needed_medium_text, needed_long_text, needed_signed, needed_no_encoding, text_by_encoding, text_small_number}
use Rattle.listpack.proofs.Encodings.{text_short_text, text_thirteen_bits, text_medium_text, text_long_text}
use Rattle.listpack.proofs.Writings.{number_small, number_thirteen, number_two, number_three, number_four, number_eight, head_short, head_medium, head_long, number_cases, spelling_as}
use Rattle.stream_node.proofs.Written.{written}
use Rattle.rax_packed.proofs.Entries.{all_front, all_back}

-- numbers that are bytes
abbrev pub Bytes : List ℕ → Type 0
Bytes s = AllByRecursion (λ b. b < 256) s

pub bytes_from : (s : List ℕ) → ((i : ℕ) → get_or s i 0 < 256) → Bytes s
bytes_from [] h = tt
bytes_from (b ∷ s) h = (h 0, bytes_from s (λ i. h (suc i)))

byte_in : (s : List ℕ) → Bytes s → (i : ℕ) → get_or s i 0 < 256
byte_in [] h i = omega arith
byte_in (b ∷ s) h zero = h.0
byte_in (b ∷ s) h (suc i) = byte_in s h.1 i

-- how many bytes the writer's spelling of a number has at most
small_is : (n : ℤ) → is_small n ≡ true → number_spelling n ≡ magnitude n ∷ []
unfolding number_spelling
small_is n e = rw e refl

two_bytes : (n : ℤ) → magnitude n < 4096 → length (number_spelling n) ≤ 2
two_bytes n h = by (is_small n) refl
  where
    by : (b : Bool) → is_small n ≡ b → length (number_spelling n) ≤ 2
    by true e = omega (arith, ap length (small_is n e))
    by false e = omega (arith, ap length (number_thirteen n e h))

three_bytes : (n : ℤ) → magnitude n < 32768 → length (number_spelling n) ≤ 3
three_bytes n h = elim (cases_lt (magnitude n) 4096) [
  | inl a ↦ omega (arith, two_bytes n a)
  | inr a ↦ omega (arith, ap length (number_two n a h), length-bytes_low_first 0 2 (low_bytes w64 2 n))
]

four_bytes : (n : ℤ) → magnitude n < 8388608 → length (number_spelling n) ≤ 4
four_bytes n h = elim (cases_lt (magnitude n) 32768) [
  | inl a ↦ omega (arith, three_bytes n a)
  | inr a ↦ omega (arith, ap length (number_three n a h), length-bytes_low_first 0 3 (low_bytes w64 3 n))
]

pub five_bytes : (n : ℤ) → magnitude n < 2147483648 → length (number_spelling n) ≤ 5
five_bytes n h = elim (cases_lt (magnitude n) 8388608) [
  | inl a ↦ omega (arith, four_bytes n a)
  | inr a ↦ omega (arith, ap length (number_four n a h), length-bytes_low_first 0 4 (low_bytes w64 4 n))
]

nine_bytes : (n : ℤ) → length (number_spelling n) ≤ 9
nine_bytes n = elim (cases_lt (magnitude n) 2147483648) [
  | inl a ↦ omega (arith, five_bytes n a)
  | inr a ↦ omega (arith, ap length (number_eight n a), length-bytes_low_first 0 8 (low_bytes w64 8 n))
]

-- a number of ten to the k has more than k digits
digits_many : (n : ℕ) → n < 2 ^ 64 → (k : ℕ) → 10 ^ k ≤ n → suc k ≤ length (decimal n)
digits_many = decimal_by_steps (λ m ds. (k : ℕ) → 10 ^ k ≤ m → suc k ≤ length ds) one more
  where
    one : (m : ℕ) → m < 10 → (k : ℕ) → 10 ^ k ≤ m → suc k ≤ length ((48 + m) ∷ [])
    one m l zero h = omega arith
    one m l (suc k) h = absurd (omega (arith, one-le-pow k 10 (omega arith)))

    more : (m : ℕ) (ds : List ℕ) → 10 ≤ m → ((k : ℕ) → 10 ^ k ≤ m / 10 → suc k ≤ length ds) → (k : ℕ) → 10 ^ k ≤ m → suc k ≤ length (ds ++ ((48 + m % 10) ∷ []))
    more m ds l h zero a = omega (arith, length-append ds ((48 + m % 10) ∷ []))
    more m ds l h (suc k) a = omega (arith, length-append ds ((48 + m % 10) ∷ []), h k (omega arith))

canonical_many : (n : ℤ) → magnitude n < 2 ^ 63 → (k : ℕ) → 10 ^ k ≤ magnitude n → suc k ≤ length (canonical n)
canonical_many (pos m) h k a = digits_many m (omega (arith, h)) k a
canonical_many (negsuc m) h k a = omega (arith, digits_many (suc m) (omega (arith, h)) k (omega (arith, a)))

fits_from : (n : ℤ) → magnitude n < 2 ^ 63 → FitsSigned w64 n
fits_from (pos m) h = record { sfits = h }
fits_from (negsuc m) h = record { sfits = h }

-- the writer's spelling of a number isn't longer than its text with a byte before it
text_enough : (n : ℤ) → magnitude n < 2 ^ 63 → length (number_spelling n) ≤ 1 + length (canonical n)
text_enough n h = elim (cases_lt (magnitude n) 4096) [
  | inl a ↦ omega (arith, two_bytes n a, (canonical_length n (fits_from n h)).0)
  | inr a ↦ elim (cases_lt (magnitude n) 32768) [
    | inl b ↦ omega (arith, three_bytes n b, canonical_many n h 1 (omega (arith, a)))
    | inr b ↦ elim (cases_lt (magnitude n) 8388608) [
      | inl d ↦ omega (arith, four_bytes n d, canonical_many n h 2 (omega (arith, b)))
      | inr d ↦ elim (cases_lt (magnitude n) 2147483648) [
        | inl e ↦ omega (arith, five_bytes n e, canonical_many n h 3 (omega (arith, d)))
        | inr e ↦ omega (arith, nine_bytes n, canonical_many n h 7 (omega (arith, e)))
      ]
    ]
  ]
]

-- a text, by how long the head of a string of its length is
text_most : (text : List ℕ) (k : ℕ) → 1 ≤ k → length (text_head (length text)) ≤ k → length (spelling text) ≤ k + length text
text_most text k some head = elim (number_cases text) [
  | inl none ↦ omega (arith, head, ap length (spelling_as text None none), length-append (text_head (length text)) text)
  | inr is ↦ omega (arith, some, ap length (spelling_as text (Some is.0) is.1), text_enough is.0 is.2, ap length is.3)
]

head_most : (n : ℕ) → length (text_head n) ≤ 5
head_most n = elim (cases_lt n 64) [
  | inl a ↦ omega (arith, ap length (head_short n a))
  | inr a ↦ elim (cases_lt n 4096) [
    | inl b ↦ omega (arith, ap length (head_medium n a b))
    | inr b ↦ omega (arith, ap length (head_long n b), length-bytes_low_first 0 4 n)
  ]
]

head_two : (n : ℕ) → n < 4096 → length (text_head n) ≤ 2
head_two n h = elim (cases_lt n 64) [
  | inl a ↦ omega (arith, ap length (head_short n a))
  | inr a ↦ omega (arith, ap length (head_medium n a h))
]

-- the text of a number is spelled as the number
canonical_as : (n : ℤ) → magnitude n < 2 ^ 63 → spelling (canonical n) ≡ number_spelling n
canonical_as n h = spelling_as (canonical n) (Some n) (number_back n (fits_from n h))

number_most : (text : List ℕ) (n : ℤ) (k : ℕ) → text ≡ canonical n → magnitude n < 2 ^ 63 → length (number_spelling n) ≤ k → length (spelling text) ≤ k
number_most text n k is h few = omega (arith, few, ap (λ (x : List ℕ). length (spelling x)) is, ap length (canonical_as n h))

-- the numbers that so many bits hold
thirteen_low : (n : ℤ) (x : ℕ) → x < 8192 → thirteen_bits x ≡ n → magnitude n < 4096
thirteen_low (pos m) x h e = grind (arith, ints, nat_tests)
thirteen_low (negsuc m) x h e = grind (arith, ints, nat_tests)

two_low : (n : ℤ) (x : ℕ) → x < 65536 → twos_complement 2 x ≡ n → magnitude n < 32768
two_low (pos m) x h e = grind (arith, ints, nat_tests)
two_low (negsuc m) x h e = grind (arith, ints, nat_tests)

three_low : (n : ℤ) (x : ℕ) → x < 16777216 → twos_complement 3 x ≡ n → magnitude n < 8388608
three_low (pos m) x h e = grind (arith, ints, nat_tests)
three_low (negsuc m) x h e = grind (arith, ints, nat_tests)

four_low : (n : ℤ) (x : ℕ) → x < 4294967296 → twos_complement 4 x ≡ n → magnitude n < 2147483648
four_low (pos m) x h e = grind (arith, ints, nat_tests)
four_low (negsuc m) x h e = grind (arith, ints, nat_tests)

eight_low : (n : ℤ) (x : ℕ) → x < 18446744073709551616 → twos_complement 8 x ≡ n → magnitude n < 9223372036854775808
eight_low (pos m) x h e = grind (arith, ints, nat_tests)
eight_low (negsuc m) x h e = grind (arith, ints, nat_tests)

-- a number of k bytes behind its encoding
module _ (b : ℕ) (more : List ℕ) (own : IsSpelling (b ∷ more)) (all : Bytes more) where
  at : (i : ℕ) → get_or more i 0 < 256
  at = byte_in more all

  signed_most : (k : ℕ) → encoding_of b ≡ Signed k → magnitude (twos_complement k (little_number k more)) < 2 ^ 63 → length (number_spelling (twos_complement k (little_number k more))) ≤ 1 + k
      → length (spelling (text_of (b ∷ more))) ≤ length (b ∷ more)
  signed_most k e fits few =
      omega (arith, own, needed_signed b k more e, number_most (text_of (b ∷ more)) (twos_complement k (little_number k more)) (1 + k) (text_by_encoding b more (Signed k) e) fits few)

  by_two : b ≡ 241 → length (spelling (text_of (b ∷ more))) ≤ length (b ∷ more)
  by_two e =
      let low = two_low (twos_complement 2 (little_number 2 more)) (little_number 2 more) (omega (arith, at 0, at 1)) refl in
      signed_most 2 (ap encoding_of e) (omega (arith, low)) (three_bytes _ low)

  by_three : b ≡ 242 → length (spelling (text_of (b ∷ more))) ≤ length (b ∷ more)
  by_three e =
      let low = three_low (twos_complement 3 (little_number 3 more)) (little_number 3 more) (omega (arith, at 0, at 1, at 2)) refl in
      signed_most 3 (ap encoding_of e) (omega (arith, low)) (four_bytes _ low)

  by_four : b ≡ 243 → length (spelling (text_of (b ∷ more))) ≤ length (b ∷ more)
  by_four e =
      let low = four_low (twos_complement 4 (little_number 4 more)) (little_number 4 more) (omega (arith, at 0, at 1, at 2, at 3)) refl in
      signed_most 4 (ap encoding_of e) (omega (arith, low)) (five_bytes _ low)

  by_eight : b ≡ 244 → length (spelling (text_of (b ∷ more))) ≤ length (b ∷ more)
  by_eight e =
      let low = eight_low (twos_complement 8 (little_number 8 more)) (little_number 8 more) (omega (arith, at 0, at 1, at 2, at 3, at 4, at 5, at 6, at 7)) refl in
      signed_most 8 (ap encoding_of e) (omega (arith, low)) (nine_bytes _)

  by_small : b < 128 → length (spelling (text_of (b ∷ more))) ≤ length (b ∷ more)
  by_small h =
      omega (arith, own, number_most (text_of (b ∷ more)) (pos b) 1 (text_small_number b more h) (omega (arith, h)) (omega (arith, ap length (number_small (pos b) (omega (arith, ints)) h))))

  by_short : 128 ≤ b → b < 192 → length (spelling (text_of (b ∷ more))) ≤ length (b ∷ more)
  by_short l h =
      let size = needed_short_text b more l h in
      let head : length (text_head (length more)) ≤ 1 = omega (arith, ap length (head_short (length more) (omega (arith, own, size, h)))) in
      omega (arith, ap (λ (x : List ℕ). length (spelling x)) (text_short_text b more l h), text_most more 1 (omega arith) head)

  by_thirteen : 192 ≤ b → b < 224 → length (spelling (text_of (b ∷ more))) ≤ length (b ∷ more)
  by_thirteen l h =
      let x : ℕ = (b - 192) * 256 + get_or more 0 0 in
      let low = thirteen_low (thirteen_bits x) x (omega (arith, at 0, l, h)) refl in
      omega (arith, own, needed_thirteen_bits b more l h, number_most (text_of (b ∷ more)) (thirteen_bits x) 2 (text_thirteen_bits b more l h) (omega (arith, low)) (two_bytes _ low))

  by_medium : 224 ≤ b → b < 240 → length (spelling (text_of (b ∷ more))) ≤ length (b ∷ more)
  by_medium l h =
      let size = needed_medium_text b more l h in
      let left = length-drop 1 more in
      let head = head_two (length (drop 1 more)) (omega (arith, own, size, left, at 0, h)) in
      omega (arith, own, size, left, ap (λ (x : List ℕ). length (spelling x)) (text_medium_text b more l h), text_most (drop 1 more) 2 (omega arith) head)

  by_long : b ≡ 240 → length (spelling (text_of (b ∷ more))) ≤ length (b ∷ more)
  by_long e =
      let size = needed_long_text b more e in
      let left = length-drop 4 more in
      omega (arith, own, size, left, ap (λ (x : List ℕ). length (spelling x)) (text_long_text b more e), text_most (drop 4 more) 5 (omega arith) (head_most (length (drop 4 more))))

  by_none : 245 ≤ b → length (spelling (text_of (b ∷ more))) ≤ length (b ∷ more)
  by_none l = absurd (omega (arith, own, needed_no_encoding b more l))

  by_high : 240 ≤ b → length (spelling (text_of (b ∷ more))) ≤ length (b ∷ more)
  by_high l = elim (cases_lt b 241) [
    | inl h ↦ by_long (omega (arith, l, h))
    | inr l1 ↦ elim (cases_lt b 242) [
      | inl h ↦ by_two (omega (arith, l1, h))
      | inr l2 ↦ elim (cases_lt b 243) [
        | inl h ↦ by_three (omega (arith, l2, h))
        | inr l3 ↦ elim (cases_lt b 244) [
          | inl h ↦ by_four (omega (arith, l3, h))
          | inr l4 ↦ elim (cases_lt b 245) [ inl h ↦ by_eight (omega (arith, l4, h)) | inr l5 ↦ by_none l5 ]
        ]
      ]
    ]
  ]

  by_first : length (spelling (text_of (b ∷ more))) ≤ length (b ∷ more)
  by_first = elim (cases_lt b 128) [
    | inl h ↦ by_small h
    | inr l1 ↦ elim (cases_lt b 192) [
      | inl h ↦ by_short l1 h
      | inr l2 ↦ elim (cases_lt b 224) [
        | inl h ↦ by_thirteen l2 h
        | inr l3 ↦ elim (cases_lt b 240) [ inl h ↦ by_medium l3 h | inr l4 ↦ by_high l4 ]
      ]
    ]
  ]

pub no_bytes : IsSpelling [] → ⊥
unfolding needed
no_bytes own = omega (arith, own)

shortest : (s : List ℕ) → IsSpelling s → Bytes s → length (spelling (text_of s)) ≤ length s
shortest [] own all = absurd (no_bytes own)
shortest (b ∷ more) own all = by_first b more own all.1

-- the back length of more bytes isn't shorter
back_rises : (a b : ℕ) → a ≤ b → length (back_length a) ≤ length (back_length b)
back_rises a b le = elim (cases_lt b 128) [
  | inl h ↦ omega (arith, ap length (back_one b h), ap length (back_one a (omega (arith, le, h))))
  | inr l1 ↦ elim (cases_lt b 16383) [
    | inl h ↦ omega (arith, ap length (back_two b l1 h), at_two a (omega (arith, le, h)))
    | inr l2 ↦ elim (cases_lt b 2097151) [
      | inl h ↦ omega (arith, ap length (back_three b l2 h), at_three a (omega (arith, le, h)))
      | inr l3 ↦ elim (cases_lt b 268435455) [
        | inl h ↦ omega (arith, ap length (back_four b l3 h), at_four a (omega (arith, le, h)))
        | inr l4 ↦ omega (arith, ap length (back_five b l4), at_five a)
      ]
    ]
  ]
]
  where
    at_two : (n : ℕ) → n < 16383 → length (back_length n) ≤ 2
    at_two n h = elim (cases_lt n 128) [ inl a ↦ omega (arith, ap length (back_one n a)) | inr a ↦ omega (arith, ap length (back_two n a h)) ]

    at_three : (n : ℕ) → n < 2097151 → length (back_length n) ≤ 3
    at_three n h = elim (cases_lt n 16383) [ inl a ↦ omega (arith, at_two n a) | inr a ↦ omega (arith, ap length (back_three n a h)) ]

    at_four : (n : ℕ) → n < 268435455 → length (back_length n) ≤ 4
    at_four n h = elim (cases_lt n 2097151) [ inl a ↦ omega (arith, at_three n a) | inr a ↦ omega (arith, ap length (back_four n a h)) ]

    at_five : (n : ℕ) → length (back_length n) ≤ 5
    at_five n = elim (cases_lt n 268435455) [ inl a ↦ omega (arith, at_four n a) | inr a ↦ omega (arith, ap length (back_five n a)) ]

entry_rises : (s t : List ℕ) → length s ≤ length t → length (entry_of s) ≤ length (entry_of t)
entry_rises s t le = omega (arith, le, back_rises (length s) (length t) le, length-append s (back_length (length s)), length-append t (back_length (length t)))

-- elements as the writer spells them take no more bytes than they took
pub written_shortest : (ss : List (List ℕ)) → All IsSpelling ss → Bytes (entries ss) → written (map text_of ss) ≤ length (entries ss)
written_shortest [] own all = omega arith
written_shortest (s ∷ ss) own all =
    let first = all_front (λ b. b < 256) (entry_of s) (entries ss) all in
    let short = shortest s (All-head IsSpelling s ss own) (all_front (λ b. b < 256) s (back_length (length s)) first) in
    omega (
      arith,
      written_shortest ss (All-tail IsSpelling s ss own) (all_back (λ b. b < 256) (entry_of s) (entries ss) all),
      entry_rises (spelling (text_of s)) s short,
      length-append (entry_of (spelling (text_of s))) (entries (map spelling (map text_of ss))),
      length-append (entry_of s) (entries ss),
    )
