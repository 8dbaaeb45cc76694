-- The loop of a move, with its masks, gives the larger table's buckets in the order of places, and the smaller table's
-- next cursor.
use Rattle.std.proofs.Common.{◌≡◌, ℕ, true, false, List, ◌++◌, ◌<◌, ◌≤◌, ◌-◌, ◌*◌, ◌/◌, ◌+◌, ◌%◌, ◌^◌, zero, suc, refl, sym, ap, ◌∙◌, arith, subst, bit_and, bit_xor, append-nil, inl, inr}
use Rattle.std.specs.Prelude.{◌==◌}
use Rattle.std.proofs.lemmas.Bool.Decides.{nat_tests}
use Rattle.std.proofs.lemmas.Nat.{pow_pos, shl-shr, shr_le, shr_split, mod_below, le-div, div_below}
use Rattle.std.proofs.lemmas.Bool.{cases_lt}
use Rattle.rev_cursor.proofs.Places.{block_start_le, lt_block_end, block_end_le_64, same_block, next_is}
use Rattle.std.proofs.Math.Nat.{mod-eq_of_lt, mul-mod_left, mul-le-mul_right, suc-mul}
use Rattle.rev_cursor.specs.Place.{reversed, place, next_of, block_end}
use Rattle.rev_cursor.proofs.Reversal.{reversed_twice}
use Rattle.rehash_dict.specs.Tables.{bucket}
use Rattle.rehash_dict.specs.Scan.{turn, walk, blocks_from, first_block, last_block}
use Rattle.rehash_dict.proofs.BlockPlaces.{place_high, whole_end, whole_start}
use Rattle.rehash_dict.proofs.Masks.{test_end, end_test}

-- a bucket is the one of its place
same_turn : {X : Type 0} (rows : List (List X)) (large v : ℕ) → large < 64 → turn rows large v ≡ turn rows large (reversed large (first_block large v))
same_turn rows large v width =
    let back : reversed large (first_block large v) ≡ v % 2 ^ large = ap (reversed large) (place_high large v width) ∙ reversed_twice large v in
    let low : v % 2 ^ large ≡ reversed large (first_block large v) % 2 ^ large = sym (mod-eq_of_lt (mod_below v (2 ^ large) (pow_pos large))) ∙ ap (λ (x : ℕ). x % 2 ^ large) (sym back) in
    ap (bucket rows) low

test_at : (small large v : ℕ) → small ≤ large → large < 64 → reversed large v % 2 ^ (large - small) ≡ 0 → bit_and v (bit_xor (2 ^ small - 1) (2 ^ large - 1)) ≡ 0
test_at small large v order width e =
    let join : small + (large - small) ≡ large = omega arith in
    subst (λ (x : ℕ). bit_and v (bit_xor (2 ^ small - 1) (2 ^ x - 1)) ≡ 0) join (end_test small (large - small) v (subst (λ (x : ℕ). reversed x v % 2 ^ (large - small) ≡ 0) (sym join) e))

at_test : (small large v : ℕ) → small ≤ large → large < 64 → bit_and v (bit_xor (2 ^ small - 1) (2 ^ large - 1)) ≡ 0 → reversed large v % 2 ^ (large - small) ≡ 0
at_test small large v order width e =
    let join : small + (large - small) ≡ large = omega arith in
    subst (λ (x : ℕ). reversed x v % 2 ^ (large - small) ≡ 0) join (test_end small (large - small) v (subst (λ (x : ℕ). bit_and v (bit_xor (2 ^ small - 1) (2 ^ x - 1)) ≡ 0) (sym join) e))

-- where a turn leads: to the next block, or past the last one to 0
stepped : (large v : ℕ) → large < 64 → (first_block large v + 1) * 2 ^ (64 - large) < 2 ^ 64 → place (next_of v large) ≡ (first_block large v + 1) * 2 ^ (64 - large)
stepped large v width h = ap place (next_is large v width) ∙ reversed_twice 64 (block_end (64 - large) (place v) % 2 ^ 64) ∙ rw (mod-eq_of_lt h) (mod-eq_of_lt h)

stepped_block : (large v : ℕ) → large < 64 → (first_block large v + 1) * 2 ^ (64 - large) < 2 ^ 64 → reversed large (next_of v large) ≡ first_block large v + 1
stepped_block large v width h = sym (place_high large (next_of v large) width) ∙ ap (λ (x : ℕ). x / 2 ^ (64 - large)) (stepped large v width h) ∙ shl-shr (first_block large v + 1) (64 - large)

stepped_out : (large v : ℕ) → large < 64 → (first_block large v + 1) * 2 ^ (64 - large) ≡ 2 ^ 64 → reversed large (next_of v large) ≡ 0
stepped_out large v width h =
    let zeroed : place (next_of v large) ≡ 0 = ap place (next_is large v width) ∙ reversed_twice 64 (block_end (64 - large) (place v) % 2 ^ 64) ∙ ap (λ (x : ℕ). x % 2 ^ 64 % 2 ^ 64) h in
    omega (arith, place_high large (next_of v large) width, block_start_le (64 - large) (place (next_of v large)), zeroed, pow_pos (64 - large), shr_le (place (next_of v large)) (64 - large))

-- the last turn: both increments are one, and the test says so
last_turn : (small large v : ℕ) → small ≤ large → large < 64 → first_block large v + 1 ≡ last_block small large v → next_of v large ≡ next_of v small
last_turn small large v order width e =
    let ends : block_end (64 - large) (place v) ≡ block_end (64 - small) (place v) = ap (λ (x : ℕ). x * 2 ^ (64 - large)) e ∙ sym (whole_end small large v order width) in
    next_is large v width ∙ ap (λ (x : ℕ). reversed 64 (x % 2 ^ 64)) ends ∙ sym (next_is small v (omega arith))

last_test : (small large v : ℕ) → small ≤ large → large < 64 → first_block large v + 1 ≡ last_block small large v → bit_and (next_of v large) (bit_xor (2 ^ small - 1) (2 ^ large - 1)) ≡ 0
last_test small large v order width e = test_at small large (next_of v large) order width (elim (cases_lt ((first_block large v + 1) * 2 ^ (64 - large)) (2 ^ 64)) [
  | inl h ↦ ap (λ (x : ℕ). x % 2 ^ (large - small)) (stepped_block large v width h ∙ e) ∙ mul-mod_left (place v / 2 ^ (64 - small) + 1) (2 ^ (large - small))
  | inr h ↦ ap (λ (x : ℕ). x % 2 ^ (large - small)) (stepped_out large v width (omega (arith, h, block_end_le_64 large v width))) ∙ zero_rest (2 ^ (large - small)) (pow_pos (large - small))
])
  where
    zero_rest : (m : ℕ) → 0 < m → 0 % m ≡ 0
    zero_rest m pos = mod-eq_of_lt pos

-- an earlier turn
more_fits : (small large v : ℕ) → small ≤ large → large < 64 → first_block large v + 1 < last_block small large v → (first_block large v + 1) * 2 ^ (64 - large) < 2 ^ 64
more_fits small large v order width h =
    omega (arith, mul_lt (first_block large v + 1) (last_block small large v) (2 ^ (64 - large)) h (pow_pos (64 - large)), whole_end small large v order width, block_end_le_64 small v (omega arith))
  where
    mul_lt : (a b k : ℕ) → a < b → 0 < k → a * k < b * k
    mul_lt a b k h pos = omega (arith, mul-le-mul_right k h, suc-mul a k)

more_test : (small large v : ℕ) → small ≤ large → large < 64 → first_block large v + 1 < last_block small large v → bit_and (next_of v large) (bit_xor (2 ^ small - 1) (2 ^ large - 1)) ≡ 0 → ⊥
more_test small large v order width h test =
    let d : ℕ = large - small in
    let rest : (first_block large v + 1) % 2 ^ (large - small) ≡ 0 = ap (λ (x : ℕ). x % 2 ^ (large - small)) (sym (stepped_block large v width (more_fits small large v order width h)))
    ∙ at_test small large (next_of v large) order width test in
    let whole : (first_block large v + 1) / 2 ^ (large - small) * 2 ^ (large - small) ≡ first_block large v + 1 = omega (arith, shr_split (first_block large v + 1) (large - small), rest) in
    let below : (first_block large v + 1) / 2 ^ (large - small) < place v / 2 ^ (64 - small) + 1 =
    div_below (first_block large v + 1) (2 ^ (large - small)) (place v / 2 ^ (64 - small) + 1) (pow_pos (large - small)) h in
    let few : (first_block large v + 1) / 2 ^ (large - small) ≤ place v / 2 ^ (64 - small) = omega arith in
    let under : (first_block large v + 1) / 2 ^ (large - small) * 2 ^ (large - small) ≤ place v / 2 ^ (64 - small) * 2 ^ (large - small) = mul-le-mul_right (2 ^ (large - small)) few in
    let from : place v / 2 ^ (64 - small) * 2 ^ (large - small) ≤ first_block large v =
    le-div (place v / 2 ^ (64 - small) * 2 ^ (large - small)) (place v) (2 ^ (64 - large)) (pow_pos (64 - large))
    (omega (arith, whole_start small large v order width, block_start_le (64 - small) (place v))) in
    omega (arith, whole, under, from)

more_same : (small large v : ℕ) → small ≤ large → large < 64 → first_block large v + 1 < last_block small large v → place (next_of v large) / 2 ^ (64 - small) ≡ place v / 2 ^ (64 - small)
more_same small large v order width h =
    let at : place (next_of v large) ≡ (first_block large v + 1) * 2 ^ (64 - large) = stepped large v width (more_fits small large v order width h) in
    same_block (64 - small) (place (next_of v large)) (place v)
    (omega (arith, at, block_start_le (64 - small) (place v), lt_block_end (64 - large) (place v)))
    (omega (arith, at, mul_lt (first_block large v + 1) (last_block small large v) (2 ^ (64 - large)) h (pow_pos (64 - large)), whole_end small large v order width))
  where
    mul_lt : (a b k : ℕ) → a < b → 0 < k → a * k < b * k
    mul_lt a b k h pos = omega (arith, mul-le-mul_right k h, suc-mul a k)

-- the section's loop gives the buckets of the blocks, and the smaller table's next cursor
pub walked : {X : Type 0} (rows : List (List X)) (small large count extra v : ℕ) → small ≤ large → large < 64 → first_block large v + suc count ≡ last_block small large v
    → walk rows small large (suc (count + extra)) v ≡ (blocks_from rows large (suc count) (first_block large v), next_of v small)
unfolding walk blocks_from
walked {X} rows small large zero extra v order width e =
    let stop : (bit_and (next_of v large) (bit_xor (2 ^ small - 1) (2 ^ large - 1)) == 0) ≡ true = yes_zero _ (last_test small large v order width (omega (arith, e))) in
    rw (stop, same_turn rows large v width, last_turn small large v order width (omega (arith, e)), append-nil (turn rows large (reversed large (first_block large v)))) refl
  where
    yes_zero : (x : ℕ) → x ≡ 0 → (x == 0) ≡ true
    yes_zero x h = grind (arith, nat_tests)
walked {X} rows small large (suc count) extra v order width e =
    let more : first_block large v + 1 < last_block small large v = omega arith in
    let going : (bit_and (next_of v large) (bit_xor (2 ^ small - 1) (2 ^ large - 1)) == 0) ≡ false = no_zero _ (more_test small large v order width more) in
    let first : first_block large (next_of v large) ≡ suc (first_block large v) = place_high large (next_of v large) width
    ∙ stepped_block large v width (more_fits small large v order width more) ∙ omega arith in
    let same : place (next_of v large) / 2 ^ (64 - small) ≡ place v / 2 ^ (64 - small) = more_same small large v order width more in
    let last : last_block small large (next_of v large) ≡ last_block small large v = ap (λ (x : ℕ). (x + 1) * 2 ^ (large - small)) same in
    let end : next_of (next_of v large) small ≡ next_of v small = next_is small (next_of v large) (omega arith) ∙ ap (λ (x : ℕ). reversed 64 ((x + 1) * 2 ^ (64 - small) % 2 ^ 64)) same
    ∙ sym (next_is small v (omega arith)) in
    let fuel : suc count + extra ≡ suc (count + extra) = omega arith in
    let rest : walk rows small large (suc count + extra) (next_of v large) ≡ (blocks_from rows large (suc count) (suc (first_block large v)), next_of v small)
    = ap (λ (x : ℕ). walk rows small large x (next_of v large)) fuel
    ∙ walked rows small large count extra (next_of v large) order width (omega (arith, e, first, last))
    ∙ ap (λ (x : ℕ). (blocks_from rows large (suc count) x, next_of (next_of v large) small)) first
    ∙ ap (λ (x : ℕ). (blocks_from rows large (suc count) (suc (first_block large v)), x)) end in
    rw going (ap (λ (p : List X × ℕ). (turn rows large v ++ p.0, p.1)) rest
    ∙ ap (λ (b : List X). (b ++ blocks_from rows large (suc count) (suc (first_block large v)), next_of v small)) (same_turn rows large v width))
  where
    no_zero : (x : ℕ) → (x ≡ 0 → ⊥) → (x == 0) ≡ false
    no_zero x h = grind (arith, nat_tests)
