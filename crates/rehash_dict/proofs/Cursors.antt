-- The next cursor, by the highest bit that is 0.
use Rattle.std.proofs.Common.{◌≡◌, ℕ, ◌+◌, ◌-◌, ◌*◌, ◌/◌, ◌%◌, ◌^◌, ◌<◌, ◌≤◌, zero, suc, sym, ap, ◌∙◌, arith, subst, inl, inr}
use Rattle.std.proofs.lemmas.Bool.{cases_lt, cases_eq}
use Rattle.std.proofs.lemmas.Nat.{pow_pos, pow-add, mod_below, mod_low, shr_high}
use Rattle.std.proofs.Math.Nat.{pow-suc, add-mul, mod-eq_of_lt}
use Rattle.std.proofs.Math.Pow.{shl_lt}
use Rattle.rev_cursor.specs.Place.{reversed, place, all_above, next_of, block_end}
use Rattle.rev_cursor.proofs.Reversal.{reversed_last, reversed_low, reversed_below, reversed_split, reversed_twice}
use Rattle.rev_cursor.proofs.Places.{reversed_zero, next_is}
use Rattle.rehash_dict.proofs.Powers.{pow_le}
use Rattle.rehash_dict.proofs.BlockPlaces.{place_high}

-- a number with one more bit, reversed
with_top : (k n top : ℕ) → n < 2 ^ k → top < 2 → reversed (suc k) (top * 2 ^ k + n) ≡ reversed k n * 2 + top
with_top k n top low bit =
    let s : suc k ≡ k + 1 = omega arith in
    let rest : reversed k (top * 2 ^ k + n) ≡ reversed k n = sym (reversed_low k (top * 2 ^ k + n)) ∙ ap (reversed k) (mod_low top k n low) in
    let high : (top * 2 ^ k + n) / 2 ^ k ≡ top = shr_high top k n low in
    ap (λ (x : ℕ). reversed x (top * 2 ^ k + n)) s ∙ reversed_last k (top * 2 ^ k + n) ∙ omega (arith, rest, high)

-- the bits that are 0 are m, and 2 ^ t the highest of them
pub one_more : (bits m t : ℕ) → m < 2 ^ bits → 2 ^ t ≤ m → m < 2 ^ suc t → reversed bits (2 * 2 ^ t - 1 - (m - 2 ^ t)) ≡ reversed bits (2 ^ bits - 1 - m) + 1
one_more zero m t below low high = absurd (omega (arith, pow_pos t))
one_more (suc k) m t below low high =
    let twice : 2 ^ suc k ≡ 2 ^ k * 2 = pow-suc 2 k in
    let more : 2 ^ suc t ≡ 2 ^ t * 2 = pow-suc 2 t in
    elim (cases_lt m (2 ^ k)) [
      | inl under ↦
          (let less : t < k = elim (cases_lt t k) [ inl h ↦ h | inr h ↦ absurd (omega (arith, pow_le k t h)) ] in
          let fits : 2 ^ suc t ≤ 2 ^ k = pow_le (suc t) k less in
          let made : reversed (suc k) (0 * 2 ^ k + (2 * 2 ^ t - 1 - (m - 2 ^ t))) ≡ reversed k (2 * 2 ^ t - 1 - (m - 2 ^ t)) * 2 + 0 =
          with_top k (2 * 2 ^ t - 1 - (m - 2 ^ t)) 0 (omega arith) (omega arith) in
          let was : reversed (suc k) (1 * 2 ^ k + (2 ^ k - 1 - m)) ≡ reversed k (2 ^ k - 1 - m) * 2 + 1 = with_top k (2 ^ k - 1 - m) 1 (omega arith) (omega arith) in
          let left : 0 * 2 ^ k + (2 * 2 ^ t - 1 - (m - 2 ^ t)) ≡ 2 * 2 ^ t - 1 - (m - 2 ^ t) = omega arith in
          let right : 1 * 2 ^ k + (2 ^ k - 1 - m) ≡ 2 ^ suc k - 1 - m = omega arith in
          sym (ap (reversed (suc k)) left) ∙ made ∙ omega (arith, one_more k m t under low high, was, ap (reversed (suc k)) right))
      | inr over ↦
          (let here : t ≡ k = elim (cases_lt t k) [
            | inl h ↦ absurd (omega (arith, pow_le (suc t) k h))
            | inr h ↦ elim (cases_eq t k) [ inl e ↦ e | inr ne ↦ absurd (omega (arith, pow_le (suc k) t (omega arith))) ]
          ] in
          let same : 2 ^ t ≡ 2 ^ k = ap (λ (x : ℕ). 2 ^ x) here in
          let made : reversed (suc k) (1 * 2 ^ k + (2 ^ suc k - 1 - m)) ≡ reversed k (2 ^ suc k - 1 - m) * 2 + 1 = with_top k (2 ^ suc k - 1 - m) 1 (omega arith) (omega arith) in
          let was : reversed (suc k) (0 * 2 ^ k + (2 ^ suc k - 1 - m)) ≡ reversed k (2 ^ suc k - 1 - m) * 2 + 0 = with_top k (2 ^ suc k - 1 - m) 0 (omega arith) (omega arith) in
          let left : 1 * 2 ^ k + (2 ^ suc k - 1 - m) ≡ 2 * 2 ^ t - 1 - (m - 2 ^ t) = omega arith in
          let right : 0 * 2 ^ k + (2 ^ suc k - 1 - m) ≡ 2 ^ suc k - 1 - m = omega arith in
          sym (ap (reversed (suc k)) left) ∙ made ∙ omega (arith, was, ap (reversed (suc k)) right))
    ]

-- the next cursor is the one whose place is the end of the block
next_from : (bits v r : ℕ) → bits < 64 → r < 2 ^ bits → reversed bits r * 2 ^ (64 - bits) ≡ block_end (64 - bits) (place v) % 2 ^ 64 → r ≡ next_of v bits
next_from bits v r few low is =
    let width : bits + (64 - bits) ≡ 64 = omega arith in
    let top : 2 ^ bits ≤ 2 ^ 64 = pow_le bits 64 (omega arith) in
    let none : r / 2 ^ bits ≡ 0 = shr_zero r bits low in
    let split : reversed (bits + (64 - bits)) r ≡ reversed bits r * 2 ^ (64 - bits) + reversed (64 - bits) (r / 2 ^ bits) = reversed_split bits (64 - bits) r in
    let at : place r ≡ reversed bits r * 2 ^ (64 - bits) = ap (λ (w : ℕ). reversed w r) (sym width) ∙ split ∙ omega (arith, ap (reversed (64 - bits)) none, reversed_zero (64 - bits)) in
    sym (mod-eq_of_lt (omega arith)) ∙ sym (reversed_twice 64 r) ∙ ap (reversed 64) (at ∙ is) ∙ sym (next_is bits v few)
  where
    shr_zero : (x k : ℕ) → x < 2 ^ k → x / 2 ^ k ≡ 0
    shr_zero x k h = ap (λ (y : ℕ). y / 2 ^ k) (omega arith) ∙ shr_high 0 k x h

-- behind the cursor whose bits below the size are all 1 nothing is left
pub last_cursor : (bits v n : ℕ) → bits < 64 → n ≡ v % 2 ^ bits → 2 ^ bits - 1 - n ≡ 0 → 0 ≡ next_of v bits
unfolding reversed
last_cursor bits v n few is none =
    let low : v % 2 ^ bits ≡ 2 ^ bits - 1 = omega (arith, is, mod_below v (2 ^ bits) (pow_pos bits)) in
    let width : 64 - bits + bits ≡ 64 = omega arith in
    let whole : (2 ^ (64 - bits) - 1 + 1) * 2 ^ bits ≡ 2 ^ 64 = ap (λ (x : ℕ). x * 2 ^ bits) (omega (arith, pow_pos (64 - bits))) ∙ sym (pow-add 2 (64 - bits) bits) ∙ ap (λ (x : ℕ). 2 ^ x) width in
    let all : all_above v bits ≡ 2 ^ 64 - 1 = omega (arith, low, whole, add-mul (2 ^ (64 - bits) - 1) 1 (2 ^ bits), pow_pos bits) in
    sym (ap (λ (x : ℕ). reversed 64 ((reversed 64 x + 1) % 2 ^ 64)) all)

-- behind any other the highest bit that is 0 becomes 1, and those above it 0
pub next_cursor : (bits v n m t : ℕ) → bits < 64 → n ≡ v % 2 ^ bits → m ≡ 2 ^ bits - 1 - n → 2 ^ t ≤ m → m < 2 * 2 ^ t → 2 * 2 ^ t - 1 - (m - 2 ^ t) ≡ next_of v bits
next_cursor bits v n m t few is zeros low high =
    let below : v % 2 ^ bits < 2 ^ bits = mod_below v (2 ^ bits) (pow_pos bits) in
    let width : bits + (64 - bits) ≡ 64 = omega arith in
    let fits : 2 ^ suc t ≤ 2 ^ bits = elim (cases_lt t bits) [ inl h ↦ pow_le (suc t) bits h | inr h ↦ absurd (omega (arith, pow_le bits t h)) ] in
    let back : 2 ^ bits - 1 - m ≡ v % 2 ^ bits = omega arith in
    let up : reversed bits (2 * 2 ^ t - 1 - (m - 2 ^ t)) ≡ place v / 2 ^ (64 - bits) + 1
    = one_more bits m t (omega arith) low (omega (arith, pow-suc 2 t)) ∙ ap (λ (x : ℕ). reversed bits x + 1) back ∙ ap (λ (x : ℕ). x + 1) (reversed_low bits v ∙ sym (place_high bits v few)) in
    let end : reversed bits (2 * 2 ^ t - 1 - (m - 2 ^ t)) * 2 ^ (64 - bits) ≡ block_end (64 - bits) (place v) = ap (λ (x : ℕ). x * 2 ^ (64 - bits)) up in
    let room : reversed bits (2 * 2 ^ t - 1 - (m - 2 ^ t)) * 2 ^ (64 - bits) < 2 ^ 64 =
    subst (λ (w : ℕ). reversed bits (2 * 2 ^ t - 1 - (m - 2 ^ t)) * 2 ^ (64 - bits) < 2 ^ w) width (shl_lt bits (64 - bits) (reversed_below bits (2 * 2 ^ t - 1 - (m - 2 ^ t)))) in
    next_from bits v (2 * 2 ^ t - 1 - (m - 2 ^ t)) few (omega (arith, pow-suc 2 t, pow_pos t)) (sym (mod-eq_of_lt room) ∙ ap (λ (x : ℕ). x % 2 ^ 64) end)
