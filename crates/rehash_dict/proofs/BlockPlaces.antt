-- Where the buckets of a move lie, by their places: the larger table's are consecutive.
use Rattle.std.proofs.Common.{◌≡◌, ℕ, ◌<◌, ◌≤◌, ◌-◌, ◌*◌, ◌/◌, ◌+◌, ◌%◌, ◌^◌, suc, sym, ap, ◌∙◌, arith, subst, inl, inr}
use Rattle.std.proofs.lemmas.Bool.{cases_lt}
use Rattle.std.proofs.lemmas.Nat.{pow-add, shr_below, shl_whole, pow_below, shl-shr, pow_pos, le-div, div_below}
use Rattle.std.proofs.Math.Nat.{pow-suc, mul-mod_left, mul-le-mul_right, mod-eq_of_lt, mul_assoc}
use Rattle.rev_cursor.specs.Place.{reversed, place, block_end, block_start, next_of}
use Rattle.rev_cursor.proofs.Reversal.{reversed_below, reversed_split, reversed_low, reversed_twice}
use Rattle.rev_cursor.proofs.Places.{reversed_zero, low_from_reversed, reversed_high, block_start_le, lt_block_end, block_end_le_64, next_is}
use Rattle.rehash_dict.specs.Scan.{first_block, last_block}

-- the bucket that stands in block n
reversed_shifted : (j k n : ℕ) → reversed (k + j) (n * 2 ^ k) ≡ reversed j n
reversed_shifted j k n =
    let low : reversed k (n * 2 ^ k) ≡ 0 = sym (reversed_low k (n * 2 ^ k)) ∙ ap (reversed k) (mul-mod_left n (2 ^ k)) ∙ reversed_zero k in
    reversed_split k j (n * 2 ^ k) ∙ rw (low, shl-shr n k) (omega arith)

pub block_bucket : (large n : ℕ) → large < 64 → n < 2 ^ large → reversed 64 (n * 2 ^ (64 - large) % 2 ^ 64) ≡ reversed large n
block_bucket large n h below =
    let width : 64 - large + large ≡ 64 = omega arith in
    let fits : large + (64 - large) ≤ 64 = omega arith in
    ap (reversed 64) (shl_whole n large (64 - large) 64 below fits) ∙ subst (λ (w : ℕ). reversed w (n * 2 ^ (64 - large)) ≡ reversed large n) width (reversed_shifted large (64 - large) n)

-- how far the blocks go
pub block_below_in_block_places : (bits v : ℕ) → bits < 64 → reversed 64 v / 2 ^ (64 - bits) < 2 ^ bits
block_below_in_block_places bits v h =
    let width : bits + (64 - bits) ≡ 64 = omega arith in
    shr_below (reversed 64 v) bits (64 - bits) (subst (λ (w : ℕ). reversed 64 v < 2 ^ w) (sym width) (reversed_below 64 v))

pub block_fits_in_block_places : (bits v : ℕ) → bits < 64 → reversed 64 v / 2 ^ (64 - bits) + 1 < 2 ^ 64
block_fits_in_block_places bits v h = omega (arith, block_below_in_block_places bits v h, pow_below bits 64 h)

pub last_whole : (small large v : ℕ) → small ≤ large → large < 64 → (reversed 64 v / 2 ^ (64 - small) + 1) * 2 ^ (large - small) % 2 ^ 64 ≡ (reversed 64 v / 2 ^ (64 - small) + 1) * 2 ^ (large - small)
last_whole small large v order h =
    let narrow : small < 64 = omega arith in
    let within : suc small + (large - small) ≤ 64 = omega arith in
    shl_whole (reversed 64 v / 2 ^ (64 - small) + 1) (suc small) (large - small) 64 (omega (arith, block_below_in_block_places small v narrow, pow-suc 2 small)) within

pub last_le : (small large v : ℕ) → small ≤ large → large < 64 → (reversed 64 v / 2 ^ (64 - small) + 1) * 2 ^ (large - small) ≤ 2 ^ large
last_le small large v order h =
    let narrow : small < 64 = omega arith in
    let join : small + (large - small) ≡ large = omega arith in
    let below : reversed 64 v / 2 ^ (64 - small) + 1 ≤ 2 ^ small = omega (arith, block_below_in_block_places small v narrow) in
    subst (λ (x : ℕ). (reversed 64 v / 2 ^ (64 - small) + 1) * 2 ^ (large - small) ≤ 2 ^ x) join (rw (pow-add 2 small (large - small)) (mul-le-mul_right (2 ^ (large - small)) below))

-- the high bits of a place, at 64 bits
pub place_high : (bits h : ℕ) → bits < 64 → place h / 2 ^ (64 - bits) ≡ reversed bits h
place_high bits h small =
    let width : bits + (64 - bits) ≡ 64 = omega arith in
    subst (λ (w : ℕ). reversed w h / 2 ^ (64 - bits) ≡ reversed bits h) width (reversed_high bits (64 - bits) h)

pub in_bucket_64 : (bits v h : ℕ) → bits < 64 → place v ≤ place h → place h < block_end (64 - bits) (place v) → h % 2 ^ bits ≡ v % 2 ^ bits
in_bucket_64 bits v h small from to =
    low_from_reversed bits h v
    (sym (place_high bits h small) ∙ omega (
      arith,
      le-div (place v / 2 ^ (64 - bits)) (place h) (2 ^ (64 - bits)) (pow_pos (64 - bits)) (omega (arith, block_start_le (64 - bits) (place v))),
      div_below (place h)
          (2 ^ (64 - bits)) (place v / 2 ^ (64 - bits) + 1) (pow_pos (64 - bits)) to,
    ) ∙ place_high bits v small)

pub from_first : (bits v h : ℕ) → bits < 64 → place v ≤ place h → place v / 2 ^ (64 - bits) ≤ reversed bits h
from_first bits v h small from = omega
    (arith, place_high bits h small, le-div (place v / 2 ^ (64 - bits)) (place h) (2 ^ (64 - bits)) (pow_pos (64 - bits)) (omega (arith, block_start_le (64 - bits) (place v))))

pub to_last : (small large v h : ℕ) → small ≤ large → large < 64 → place h < block_end (64 - small) (place v) → reversed large h < last_block small large v
to_last small large v h order width to =
    let join : large - small + (64 - large) ≡ 64 - small = omega arith in
    let whole : block_end (64 - small) (place v) ≡ last_block small large v * 2 ^ (64 - large)
    = ap (λ (x : ℕ). (place v / 2 ^ (64 - small) + 1) * 2 ^ x) (sym join) ∙ ap (λ (x : ℕ). (place v / 2 ^ (64 - small) + 1) * x) (pow-add 2 (large - small) (64 - large))
    ∙ sym (mul_assoc (place v / 2 ^ (64 - small) + 1) (2 ^ (large - small)) (2 ^ (64 - large))) in
    omega (arith, place_high large h width, div_below (place h) (2 ^ (64 - large)) (last_block small large v) (pow_pos (64 - large)) (omega (arith, whole)))

pub whole_end : (small large v : ℕ) → small ≤ large → large < 64 → block_end (64 - small) (place v) ≡ last_block small large v * 2 ^ (64 - large)
whole_end small large v order width =
    let join : large - small + (64 - large) ≡ 64 - small = omega arith in
    ap (λ (x : ℕ). (place v / 2 ^ (64 - small) + 1) * 2 ^ x) (sym join) ∙ ap (λ (x : ℕ). (place v / 2 ^ (64 - small) + 1) * x) (pow-add 2 (large - small) (64 - large))
    ∙ sym (mul_assoc (place v / 2 ^ (64 - small) + 1) (2 ^ (large - small)) (2 ^ (64 - large)))

pub whole_start : (small large v : ℕ) → small ≤ large → large < 64 → block_start (64 - small) (place v) ≡ place v / 2 ^ (64 - small) * 2 ^ (large - small) * 2 ^ (64 - large)
whole_start small large v order width =
    let join : large - small + (64 - large) ≡ 64 - small = omega arith in
    ap (λ (x : ℕ). place v / 2 ^ (64 - small) * 2 ^ x) (sym join) ∙ ap (λ (x : ℕ). place v / 2 ^ (64 - small) * x) (pow-add 2 (large - small) (64 - large))
    ∙ sym (mul_assoc (place v / 2 ^ (64 - small)) (2 ^ (large - small)) (2 ^ (64 - large)))

pub first_below_last : (small large v : ℕ) → small ≤ large → large < 64 → first_block large v < last_block small large v
first_below_last small large v order width = omega (arith, place_high large v width, to_last small large v v order width (lt_block_end (64 - small) (place v)))

-- a next cursor begins its bucket's block
pub aligned : (small v : ℕ) → small < 64 → block_start (64 - small) (place (next_of v small)) ≡ place (next_of v small)
aligned small v narrow = elim (cases_lt (block_end (64 - small) (place v)) (2 ^ 64)) [
  | inl h ↦ rw (back, mod-eq_of_lt h, mod-eq_of_lt h) (ap (λ (x : ℕ). x * 2 ^ (64 - small)) (shl-shr (place v / 2 ^ (64 - small) + 1) (64 - small)))
  | inr h ↦ zeroed (omega (arith, block_end_le_64 small v narrow))
]
  where
    back : place (next_of v small) ≡ block_end (64 - small) (place v) % 2 ^ 64 % 2 ^ 64
    back = ap place (next_is small v narrow) ∙ reversed_twice 64 (block_end (64 - small) (place v) % 2 ^ 64)

    zeroed : block_end (64 - small) (place v) ≡ 2 ^ 64 → block_start (64 - small) (place (next_of v small)) ≡ place (next_of v small)
    zeroed e = omega (arith, block_start_le (64 - small) (place (next_of v small)), back ∙ ap (λ (x : ℕ). x % 2 ^ 64 % 2 ^ 64) e)
