-- The binary number of a score.
use Rattle.std.proofs.Common.{◌≡◌, ◌⊎◌, inl, inr, ℕ, zero, suc, ◌+◌, ◌-◌, ◌*◌, ◌/◌, ◌%◌, ◌^◌, ◌<◌, ◌≤◌, ℤ, pos, negsuc, Bool, true, false, List, [], refl, sym, ap, subst, ◌∙◌, arith}
use Rattle.std.specs.Prelude.{◌==◌, unsigned_abs}
use Rattle.std.specs.Int.{w64, to_le_bytes, from_le_bytes}
use Rattle.std.proofs.lemmas.Bool.{cases_lt, ne_eqb}
use Rattle.std.proofs.lemmas.List.{append-nil}
use Rattle.std.proofs.lemmas.Nat.{leading_top, pow-add, shl-shr, mul-le, mod-mul-add, pow_pos, from_le_bytes-to_le_bytes_8}
use Rattle.std.proofs.Math.Pow.{pow_mono}
use Rattle.std.proofs.Math.Nat.{div-one, mod-eq_of_lt}
use lib.Count.{count_leading_zeros}
use Rattle.rdb_grammar.specs.Scores.{sign, exponent, fraction, is_taken, is_score, magnitude, signed, score_of, score}
use Rattle.rdb_grammar.proofs.Magnitudes.{middle_some, top_some}
use Rattle.rdb_parts.specs.ScoreWords.{bits_of, significand, magnitude_word, word_of, score_word}
use Rattle.rdb_parts.proofs.Spelled.{number_le_spelled}

-- ---- the bits of a number

-- where its first bit stands
pub record Top (n : ℕ) : Type 0 where
  pub top : ℕ
  pub bits : bits_of n ≡ suc top
  pub least : 2 ^ top ≤ n
  pub most : n < 2 ^ suc top
  pub few : top ≤ 53

pub top_of : (n : ℕ) → 0 < n → n ≤ 2 ^ 53 → Top n
top_of n some low =
    let t = leading_top 64 n some (omega (arith, low)) in
    let few : t.0 ≤ 53 = elim (cases_lt 53 t.0) [
      | inl over ↦ let wide : 2 ^ 54 ≤ 2 ^ t.0 = pow_mono {i = 54} {j = t.0} (omega (arith, over)) in absurd (omega (arith, wide, t.2, low))
      | inr under ↦ omega (arith, under)
    ] in
    record { top = t.0; bits = omega (arith, t.1); least = t.2; most = t.3; few = few }

-- the number moved up to 53 bits
pub record Moved (n k : ℕ) : Type 0 where
  pub is : significand n ≡ n * 2 ^ k
  pub least : 2 ^ 52 ≤ n * 2 ^ k
  pub most : n * 2 ^ k < 2 ^ 53

pub moved_of : (n : ℕ) (t : Top n) → t.top ≤ 52 → Moved n (52 - t.top)
moved_of n t low =
    let k = 52 - t.top in
    let up : 53 - bits_of n ≡ k = omega (arith, t.bits) in
    let none : bits_of n - 53 ≡ 0 = omega (arith, t.bits, low) in
    let first : t.top + k ≡ 52 = omega (arith, low) in
    let behind : suc t.top + k ≡ 53 = omega (arith, low) in
    let whole : 2 ^ t.top * 2 ^ k ≡ 2 ^ 52 = sym (pow-add 2 t.top k) ∙ ap (λ (j : ℕ). 2 ^ j) first in
    let over : 2 ^ suc t.top * 2 ^ k ≡ 2 ^ 53 = sym (pow-add 2 (suc t.top) k) ∙ ap (λ (j : ℕ). 2 ^ j) behind in
    let next : (n + 1) * 2 ^ k ≤ 2 ^ suc t.top * 2 ^ k = mul-le (n + 1) (2 ^ k) (2 ^ suc t.top) (2 ^ k) (omega (arith, t.most)) (omega arith) in
    let more : (n + 1) * 2 ^ k ≡ n * 2 ^ k + 2 ^ k = omega arith in
    record {
      is = ap (λ (j : ℕ). n * 2 ^ j / 2 ^ (bits_of n - 53)) up ∙ ap (λ (j : ℕ). n * 2 ^ k / 2 ^ j) none ∙ div-one (n * 2 ^ k);
      least = omega (arith, whole, mul-le (2 ^ t.top) (2 ^ k) n (2 ^ k) t.least (omega arith));
      most = omega (arith, over, next, more, pow_pos k);
    }

-- only the greatest number has 54 bits
pub greatest : (n : ℕ) (t : Top n) → n ≤ 2 ^ 53 → 52 < t.top → (n ≡ 2 ^ 53) × (bits_of n ≡ 54) × (significand n ≡ 2 ^ 52)
greatest n t low over =
    let here : t.top ≡ 53 = omega (arith, over, t.few) in
    let least : 2 ^ 53 ≤ n = subst (λ (j : ℕ). 2 ^ j ≤ n) here t.least in
    let is : n ≡ 2 ^ 53 = omega (arith, least, low) in
    let bits : bits_of n ≡ 54 = t.bits ∙ ap suc here in
    (is, bits, (λ i. is i * 2 ^ (53 - bits i) / 2 ^ (bits i - 53)))

pub significand_range : (n : ℕ) → 0 < n → n ≤ 2 ^ 53 → (2 ^ 52 ≤ significand n) × (significand n < 2 ^ 53)
significand_range n some low =
    let t = top_of n some low in
    elim (cases_lt 52 t.top) [
      | inl over ↦ let g = greatest n t low over in (omega (arith, g.2), omega (arith, g.2))
      | inr under ↦ let m = moved_of n t (omega (arith, under)) in (omega (arith, m.is, m.least), omega (arith, m.is, m.most))
    ]

pub bits_few : (n : ℕ) → 0 < n → n ≤ 2 ^ 53 → bits_of n ≤ 54
bits_few n some low = let t = top_of n some low in omega (arith, t.bits, t.few)

pub shifted_up : (n bits : ℕ) → 0 < n → n ≤ 2 ^ 53 → bits ≡ bits_of n → bits ≤ 52 → n * 2 ^ (53 - bits) % 2 ^ 64 ≡ significand n
shifted_up n bits some low is few =
    let t = top_of n some low in
    let m = moved_of n t (omega (arith, is, t.bits, few)) in
    let same : 53 - bits ≡ 52 - t.top = omega (arith, is, t.bits, few) in
    ap (λ (j : ℕ). n * 2 ^ j % 2 ^ 64) same ∙ mod-eq_of_lt (omega (arith, m.most)) ∙ sym m.is

pub shifted_down : (n bits : ℕ) → bits ≡ bits_of n → 52 < bits → n / 2 ^ (bits - 53) ≡ significand n
shifted_down n bits is many =
    let none : 53 - bits_of n ≡ 0 = omega (arith, is, many) in
    let whole : n * 2 ^ (53 - bits_of n) ≡ n = ap (λ (j : ℕ). n * 2 ^ j) none ∙ omega arith in
    (λ i. sym whole i / 2 ^ (is i - 53))

-- ---- the word of a magnitude

-- a word of an exponent and a fraction, which is that of the number
record Whole (n : ℕ) : Type 0 where
  e : ℕ
  f : ℕ
  is : magnitude_word n ≡ e * 2 ^ 52 + f
  exponent_low : e < 2 ^ 11
  fraction_low : f < 2 ^ 52
  taken : is_taken e f ≡ true
  same : n ≡ magnitude e f

some_word : (n : ℕ) → 0 < n → magnitude_word n ≡ (1022 + bits_of n) * 2 ^ 52 + (significand n - 2 ^ 52)
unfolding magnitude_word
some_word n some = let other : (n == 0) ≡ false = ne_eqb n 0 (λ e. omega (arith, some, e)) in rw other refl

whole_by : (n : ℕ) (t : Top n) → 0 < n → n ≤ 2 ^ 53 → Whole n
whole_by n t some low = elim (cases_lt 52 t.top) [
  | inl over ↦
      let g = greatest n t low over in
      record {
        e = 1076;
        f = 0;
        is = some_word n some ∙ (λ i. (1022 + g.1 i) * 2 ^ 52 + (g.2 i - 2 ^ 52));
        exponent_low = omega arith;
        fraction_low = omega arith;
        taken = top_some.0;
        same = g.0 ∙ top_some.1;
      }
  | inr under ↦
      let k = 52 - t.top in
      let m = moved_of n t (omega (arith, under)) in
      let e = 1023 + t.top in
      let f = n * 2 ^ k - 2 ^ 52 in
      let bound : f < 2 ^ 52 = omega (arith, m.most) in
      let all : 2 ^ 52 + f ≡ n * 2 ^ k = omega (arith, m.least) in
      let unit : 1075 - e ≡ k = omega (arith, under) in
      let plus : n * 2 ^ k ≡ n * 2 ^ k + 0 = omega arith in
      let step : 1022 + suc t.top ≡ e = omega arith in
      let rest : (2 ^ 52 + f) % 2 ^ (1075 - e) ≡ 0 = (λ i. all i % 2 ^ unit i) ∙ ap (λ (j : ℕ). j % 2 ^ k) plus ∙ mod-mul-add n (2 ^ k) 0 (pow_pos k) in
      let back : (2 ^ 52 + f) / 2 ^ (1075 - e) ≡ n = (λ i. all i / 2 ^ unit i) ∙ shl-shr n k in
      let s = middle_some e f bound (omega arith) (omega (arith, under)) rest in
      record {
        e = e;
        f = f;
        is = some_word n some ∙ (λ i. (1022 + t.bits i) * 2 ^ 52 + (m.is i - 2 ^ 52)) ∙ ap (λ (j : ℕ). j * 2 ^ 52 + f) step;
        exponent_low = omega (arith, t.few);
        fraction_low = bound;
        taken = s.0;
        same = sym back ∙ s.1;
      }
]

whole_of : (n : ℕ) → n ≤ 2 ^ 53 → Whole n
unfolding magnitude_word
whole_of zero low = record { e = 0; f = 0; is = refl; exponent_low = omega arith; fraction_low = omega arith; taken = refl; same = refl }
whole_of (suc n) low = whole_by (suc n) (top_of (suc n) (omega arith) low) (omega arith) low

pub magnitude_fits : (n : ℕ) → n ≤ 2 ^ 53 → magnitude_word n < 2 ^ 63
magnitude_fits n low = let w = whole_of n low in omega (arith, w.is, w.exponent_low, w.fraction_low)

pub zero_word : (n : ℕ) → n ≡ 0 → 0 ≡ magnitude_word n
unfolding magnitude_word
zero_word n none = ap magnitude_word (sym none)

pub word_is : (n bits moved : ℕ) → 0 < n → moved ≡ significand n → bits ≡ bits_of n → (1022 + bits) * 2 ^ 52 + (moved - 2 ^ 52) ≡ magnitude_word n
word_is n bits moved some is many = (λ i. (1022 + many i) * 2 ^ 52 + (is i - 2 ^ 52)) ∙ sym (some_word n some)

-- ---- the word of a score

-- the word is that of the score
pub record Words (n : ℤ) : Type 0 where
  pub taken : is_score (word_of n) ≡ true
  pub same : n ≡ score_of (word_of n)
  pub fits : word_of n < 2 ^ 64

parts_of : (s e f word : ℕ) → s < 2 → e < 2 ^ 11 → f < 2 ^ 52 → word ≡ s * 2 ^ 63 + (e * 2 ^ 52 + f) → (sign word ≡ s) × (exponent word ≡ e) × (fraction word ≡ f)
parts_of s e f word a b c is = (omega (arith, a, b, c, is), omega (arith, a, b, c, is), omega (arith, a, b, c, is))

words_of : (n : ℤ) (s : ℕ) (m : ℕ) → s < 2 → m ≤ 2 ^ 53 → (w : Whole m) → word_of n ≡ s * 2 ^ 63 + magnitude_word m → n ≡ signed s m → Words n
words_of n s m low few w is same =
    let word = word_of n in
    let p = parts_of s w.e w.f word low w.exponent_low w.fraction_low (is ∙ ap (λ (x : ℕ). s * 2 ^ 63 + x) w.is) in
    record {
      taken = (λ i. is_taken (p.1 i) (p.2 i)) ∙ w.taken;
      same = same ∙ ap (signed s) w.same ∙ (λ i. signed (sym p.0 i) (magnitude (sym p.1 i) (sym p.2 i)));
      fits = omega (arith, low, is, w.is, w.exponent_low, w.fraction_low);
    }

pub score_words : (n : ℤ) → unsigned_abs n ≤ 2 ^ 53 → Words n
score_words (pos n) low = words_of (pos n) 0 n (omega arith) low (whole_of n low) (omega arith) refl
score_words (negsuc n) low = words_of (negsuc n) 1 (suc n) (omega arith) low (whole_of (suc n) low) (omega arith) refl

pub score_spelled : (n : ℤ) → unsigned_abs n ≤ 2 ^ 53 → score.Spells n (score_word n)
score_spelled n low =
    let w = score_words n low in
    let bytes = to_le_bytes w64 (word_of n) in
    let back : word_of n ≡ from_le_bytes w64 bytes = sym (from_le_bytes-to_le_bytes_8 (word_of n) w.fits) in
    (word_of n, bytes, [], sym (append-nil bytes), (number_le_spelled w64 (word_of n) bytes refl back, w.taken), (w.same, refl))
