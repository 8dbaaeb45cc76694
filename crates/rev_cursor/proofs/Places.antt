use Rattle.std.proofs.Common.{◌≡◌, ℕ, ◌+◌, ◌-◌, ◌*◌, ◌/◌, ◌%◌, ◌^◌, ◌<◌, ◌≤◌, zero, suc, refl, ap, arith, sym, ◌∙◌, bit_or, inl, inr, subst}
use Rattle.std.proofs.Math.Nat.{pow-suc, add-mul, mod-eq_of_lt, mod_self, mul-le-mul_right}
use Rattle.std.proofs.lemmas.Nat.{pow_pos, pow-add, shr_split, shr_high, mod_low, mod_below, le-div, div_below, shr_below, or_lt, le_or_r, or_block}
use Rattle.std.proofs.lemmas.Bool.{cases_lt}
use Rattle.std.proofs.lemmas.Nat.Bits.{ones_shr}
use Rattle.std.specs.Int.Bits.{or_zero_r}
use Rattle.std.specs.Int.{reverse_bits, w64}
use Rattle.rev_cursor.specs.Place.{reversed, place, block_start, block_end, end_within, end_of, next_of, all_above, IsBucket}
use Rattle.rev_cursor.proofs.Reversal.{onto, reversed_below, reversed_split, reversed_low, reversed_twice}

-- the high bits of a reversal are the reversal of the low bits
pub reversed_high : (j k n : ℕ) → reversed (j + k) n / 2 ^ k ≡ reversed j n
reversed_high j k n = ap (λ (x : ℕ). x / 2 ^ k) (reversed_split j k n) ∙ shr_high (reversed j n) k (reversed k (n / 2 ^ j)) (reversed_below k (n / 2 ^ j))

-- two numbers with one reversal have the same low bits
pub low_from_reversed : (j n m : ℕ) → reversed j n ≡ reversed j m → n % 2 ^ j ≡ m % 2 ^ j
low_from_reversed j n m e = sym (reversed_twice j n) ∙ ap (reversed j) e ∙ reversed_twice j m

pub reversed_from_low : (j n m : ℕ) → n % 2 ^ j ≡ m % 2 ^ j → reversed j n ≡ reversed j m
reversed_from_low j n m e = sym (reversed_low j n) ∙ ap (reversed j) e ∙ reversed_low j m

-- the blocks of places, over any numbers
pub same_block : (k a b : ℕ) → block_start k b ≤ a → a < block_end k b → a / 2 ^ k ≡ b / 2 ^ k
same_block k a b from to = omega (arith, le-div (b / 2 ^ k) a (2 ^ k) (pow_pos k) from, div_below a (2 ^ k) (b / 2 ^ k + 1) (pow_pos k) to)

pub block_start_le : (k a : ℕ) → block_start k a ≤ a
block_start_le k a = omega (arith, shr_split a k)

pub lt_block_end : (k a : ℕ) → a < block_end k a
lt_block_end k a = omega (arith, shr_split a k, mod_below a (2 ^ k) (pow_pos k), add-mul (a / 2 ^ k) 1 (2 ^ k))

pub block_end_le : (j k a : ℕ) → a < 2 ^ (j + k) → block_end k a ≤ 2 ^ (j + k)
block_end_le j k a h =
    let below : a / 2 ^ k + 1 ≤ 2 ^ j = omega (arith, shr_below a j k h) in
    rw (pow-add 2 j k) (mul-le-mul_right (2 ^ k) below)

-- an element in the block of a cursor's place is in the cursor's bucket
pub in_bucket : (j k v h : ℕ) → block_start k (reversed (j + k) v) ≤ reversed (j + k) h → reversed (j + k) h < block_end k (reversed (j + k) v) → h % 2 ^ j ≡ v % 2 ^ j
in_bucket j k v h from to = low_from_reversed j h v (sym (reversed_high j k h) ∙ same_block k _ _ from to ∙ reversed_high j k v)

-- and an element of the cursor's bucket is in the block
pub in_block : (j k v h : ℕ) → h % 2 ^ j ≡ v % 2 ^ j → (block_start k (reversed (j + k) v) ≤ reversed (j + k) h) × (reversed (j + k) h < block_end k (reversed (j + k) v))
in_block j k v h e =
    let same : reversed (j + k) v / 2 ^ k ≡ reversed (j + k) h / 2 ^ k = reversed_high j k v ∙ sym (reversed_from_low j h v e) ∙ sym (reversed_high j k h) in
    rw same (block_start_le k _, lt_block_end k _)

-- what the word operations make
pub ones_above : (k a : ℕ) → bit_or a (2 ^ k - 1) + 1 ≡ block_end k a
ones_above k a =
    let pos : 0 < 2 ^ k = pow_pos k in
    let low : a % 2 ^ k < 2 ^ k = mod_below a (2 ^ k) pos in
    let ones : 2 ^ k - 1 < 2 ^ k = omega arith in
    let full : bit_or (a % 2 ^ k) (2 ^ k - 1) ≡ 2 ^ k - 1
    = omega (arith, or_lt k (a % 2 ^ k) (2 ^ k - 1) low ones, le_or_r (a % 2 ^ k) (2 ^ k - 1)) in
    let parts : bit_or (a / 2 ^ k * 2 ^ k + a % 2 ^ k) (0 * 2 ^ k + (2 ^ k - 1)) ≡ bit_or (a / 2 ^ k) 0 * 2 ^ k + bit_or (a % 2 ^ k) (2 ^ k - 1)
    = or_block k (a / 2 ^ k) 0 (a % 2 ^ k) (2 ^ k - 1) low ones in
    let whole : bit_or a (2 ^ k - 1) ≡ a / 2 ^ k * 2 ^ k + (2 ^ k - 1)
    = ap (λ (x : ℕ). bit_or x (2 ^ k - 1)) (sym (shr_split a k)) ∙ ap (λ (x : ℕ). bit_or (a / 2 ^ k * 2 ^ k + a % 2 ^ k) x) (omega arith) ∙ parts ∙ rw (or_zero_r (a / 2 ^ k), full) refl in
    omega (arith, whole, add-mul (a / 2 ^ k) 1 (2 ^ k))

pub reversed_zero : (k : ℕ) → reversed k 0 ≡ 0
unfolding reversed
reversed_zero zero = refl
reversed_zero (suc k) = omega (arith, reversed_zero k)

-- the cursor that stands for an end
pub end_within_reversed : (w e : ℕ) → 0 < e → e ≤ 2 ^ w → end_within w (reversed w (e % 2 ^ w)) ≡ e
unfolding end_within
end_within_reversed w e pos bound = elim (cases_lt e (2 ^ w)) [ inl h ↦ inside h _ refl | inr h ↦ outside (omega arith) ]
  where
    outside : e ≡ 2 ^ w → end_within w (reversed w (e % 2 ^ w)) ≡ e
    outside h = rw (h, mod_self (2 ^ w), reversed_zero w) refl

    inside : e < 2 ^ w → (c : ℕ) → c ≡ reversed w (e % 2 ^ w) → end_within w c ≡ e
    inside h zero q =
        let m : e % 2 ^ w ≡ e = mod-eq_of_lt h in
        let back : reversed w 0 ≡ e = ap (reversed w) q ∙ reversed_twice w (e % 2 ^ w) ∙ rw m m in
        absurd (omega (arith, back, reversed_zero w))
    inside h (suc c) q =
        let m : e % 2 ^ w ≡ e = mod-eq_of_lt h in
        ap (reversed w) q ∙ reversed_twice w (e % 2 ^ w) ∙ rw m m

-- what `next` computes
pub end_within_next : (j k r : ℕ) → r < 2 ^ (j + k) → end_within (j + k) (reversed (j + k) ((bit_or r (2 ^ k - 1) + 1) % 2 ^ (j + k))) ≡ block_end k r
end_within_next j k r h =
    let pos : 0 < block_end k r = omega (arith, lt_block_end k r) in
    rw (ones_above k r) (end_within_reversed (j + k) (block_end k r) pos (block_end_le j k r h))

-- a number of ones is its own reversal
reversed_ones : (k : ℕ) → reversed k (2 ^ k - 1) ≡ 2 ^ k - 1
unfolding reversed
reversed_ones zero = refl
reversed_ones (suc k) =
    let pos : 0 < 2 ^ k = pow_pos k in
    let twice : 2 ^ suc k ≡ 2 ^ k * 2 = pow-suc 2 k in
    let half : (2 ^ suc k - 1) / 2 ≡ 2 ^ k - 1 = omega arith in
    let odd : (2 ^ suc k - 1) % 2 ≡ 1 = omega arith in
    rw (half, odd, reversed_ones k) (omega arith)

-- with all bits above the mask set, the reversed cursor has all low bits set
above_end : (j k v : ℕ) → reversed (j + k) ((2 ^ k - 1) * 2 ^ j + v % 2 ^ j) + 1 ≡ block_end k (reversed (j + k) v)
above_end j k v =
    let low : v % 2 ^ j < 2 ^ j = mod_below v (2 ^ j) (pow_pos j) in
    let n : ℕ = (2 ^ k - 1) * 2 ^ j + v % 2 ^ j in
    let same : n % 2 ^ j ≡ v % 2 ^ j = mod_low (2 ^ k - 1) j (v % 2 ^ j) low in
    let high : n / 2 ^ j ≡ 2 ^ k - 1 = shr_high (2 ^ k - 1) j (v % 2 ^ j) low in
    let split : reversed (j + k) n ≡ reversed j n * 2 ^ k + reversed k (n / 2 ^ j) = reversed_split j k n in
    let bucket : reversed j n ≡ reversed j v = reversed_from_low j n v same in
    let ones : reversed k (n / 2 ^ j) ≡ 2 ^ k - 1 = ap (reversed k) high ∙ reversed_ones k in
    let made : reversed (j + k) n ≡ reversed j v * 2 ^ k + (2 ^ k - 1) = split ∙ (ap (λ (x : ℕ). x * 2 ^ k + reversed k (n / 2 ^ j)) bucket ∙ ap (λ (x : ℕ). reversed j v * 2 ^ k + x) ones) in
    let whole : block_end k (reversed (j + k) v) ≡ (reversed j v + 1) * 2 ^ k = ap (λ (x : ℕ). (x + 1) * 2 ^ k) (reversed_high j k v) in
    let pos : 0 < 2 ^ k = pow_pos k in
    omega (arith, made, whole, add-mul (reversed j v) 1 (2 ^ k))

width : (bits : ℕ) → bits < 64 → bits + (64 - bits) ≡ 64
width bits small = omega arith

-- the next cursor by the block of places that the cursor is in
pub next_is : (bits v : ℕ) → bits < 64 → next_of v bits ≡ reversed 64 (block_end (64 - bits) (place v) % 2 ^ 64)
next_is bits v small = ap (λ (x : ℕ). reversed 64 (x % 2 ^ 64))
    (subst (λ (w : ℕ). reversed w (all_above v bits) + 1 ≡ block_end (64 - bits) (reversed w v)) (width bits small) (above_end bits (64 - bits) v))

-- and at 64 bits, by std's reversal
pub next_cursor : (bits cursor start result : ℕ) → bits < 64 → start ≡ reversed 64 cursor → result ≡ reverse_bits w64 ((bit_or start ((2 ^ 64 - 1) / 2 ^ bits) + 1) % 2 ^ 64)
    → result ≡ next_of cursor bits
next_cursor bits cursor start result small is_start is_result =
    let within : bits ≤ 64 = omega arith in
    let made : result ≡ reversed 64 ((bit_or start ((2 ^ 64 - 1) / 2 ^ bits) + 1) % 2 ^ 64)
    = is_result ∙ onto 64 _ 0 ∙ omega arith in
    made ∙ ap (λ (x : ℕ). reversed 64 ((bit_or x ((2 ^ 64 - 1) / 2 ^ bits) + 1) % 2 ^ 64)) is_start
    ∙ ap (λ (x : ℕ). reversed 64 ((bit_or (reversed 64 cursor) x + 1) % 2 ^ 64)) (ones_shr 64 bits within)
    ∙ ap (λ (x : ℕ). reversed 64 (x % 2 ^ 64)) (ones_above (64 - bits) (reversed 64 cursor))
    ∙ sym (next_is bits cursor small)

pub block_end_le_64 : (bits v : ℕ) → bits < 64 → block_end (64 - bits) (reversed 64 v) ≤ 2 ^ 64
block_end_le_64 bits v small =
    let width : bits + (64 - bits) ≡ 64 = omega arith in
    subst (λ (w : ℕ). block_end (64 - bits) (reversed 64 v) ≤ 2 ^ w) width (block_end_le bits (64 - bits) (reversed 64 v) (subst (λ (w : ℕ). reversed 64 v < 2 ^ w) (sym width) (reversed_below 64 v)))

-- the next cursor's end is the end of the bucket's block
pub end_of_next_of : (bits v : ℕ) → bits < 64 → end_of (next_of v bits) ≡ block_end (64 - bits) (place v)
end_of_next_of bits v small = ap end_of (next_is bits v small) ∙ end_within_reversed 64 (block_end (64 - bits) (reversed 64 v)) (omega (arith, lt_block_end (64 - bits) (reversed 64 v)))
    (block_end_le_64 bits v small)

-- the bucket of a cursor, in places
pub bucket_of : (bits v next : ℕ) → bits < 64 → end_of next ≡ block_end (64 - bits) (place v) → IsBucket bits v next
bucket_of bits v next small is_end = record {
  whole = λ h e.
      (let both = subst (λ (w : ℕ). (block_start (64 - bits) (reversed w v) ≤ reversed w h) × (reversed w h < block_end (64 - bits) (reversed w v))) (width bits small)
      (in_block bits (64 - bits) v h e) in (both.0, omega (arith, both.1, is_end)));
  only = λ h from to. subst (λ (w : ℕ). block_start (64 - bits) (reversed w v) ≤ reversed w h → reversed w h < block_end (64 - bits) (reversed w v) → h % 2 ^ bits ≡ v % 2 ^ bits)
      (width bits small) (in_bucket bits (64 - bits) v h) from (omega (arith, to, is_end));
}
