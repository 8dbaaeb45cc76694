-- What the moves of a walk have in their intervals.
use Rattle.std.proofs.Common.{◌≡◌, ◌≢◌, ℕ, ◌+◌, ◌-◌, ◌*◌, ◌/◌, ◌^◌, ◌%◌, ◌<◌, ◌≤◌, zero, suc, refl, sym, ap, ◌∙◌, subst, arith, inl, inr, List, replicate, ◌&&◌, Bool, true, false, cond}
use Rattle.std.specs.Prelude.{nat_le, nat_lt, ◌==◌}
use Rattle.std.proofs.lemmas.Bool.{cases_lt}
use Rattle.std.proofs.lemmas.Bool.Decides.{nat_tests}
use Rattle.std.proofs.lemmas.Nat.{pow_pos, pow-add, shl-shr}
use Rattle.std.proofs.Math.Nat.{add-mul, mul-le-mul_right}
use Rattle.rev_cursor.specs.Place.{reversed, place, end_of, end_within, next_of, block_end, IsWalk, last, more, moves_over, meetings}
use Rattle.rev_cursor.proofs.Reversal.{reversed_below}
use Rattle.rev_cursor.proofs.Places.{lt_block_end, end_of_next_of, next_is, reversed_zero, bucket_of, block_start_le}

-- a cursor that isn't 0 ends at its own place, and 0 at the end of all
pub end_of_more_in_walks : (m : ℕ) → m ≢ 0 → end_of m ≡ place m
unfolding end_within
end_of_more_in_walks zero h = absurd (h refl)
end_of_more_in_walks (suc m) h = refl

pub end_of_zero : end_of 0 ≡ 2 ^ 64
unfolding end_within
end_of_zero = refl

-- a move goes on
pub place_lt_end : (bits v : ℕ) → bits < 64 → place v < end_of (next_of v bits)
place_lt_end bits v small = omega (arith, end_of_next_of bits v small, lt_block_end (64 - bits) (place v))

-- one where the test holds
abbrev one_if : Bool → ℕ
one_if b = cond b 1 0

inside : (from at to : ℕ) → from ≤ at → at < to → one_if (nat_le from at && nat_lt at to) ≡ 1
inside from at to f t = grind (arith, nat_tests)

before : (from at to : ℕ) → at < from → one_if (nat_le from at && nat_lt at to) ≡ 0
before from at to f = grind (arith, nat_tests)

behind : (from at to : ℕ) → to ≤ at → one_if (nat_le from at && nat_lt at to) ≡ 0
behind from at to t = grind (arith, nat_tests)

pub none_before : (cursor at : ℕ) (bits : List ℕ) → IsWalk cursor bits → at < place cursor → moves_over at cursor bits ≡ 0
unfolding moves_over
none_before _ at _ (last cursor bits small zero') early = omega (arith, before (place cursor) at (end_of (next_of cursor bits)) early)
none_before _ at _ (more cursor bits rest small goes_on walk) early =
    let next : at < place (next_of cursor bits) = omega (arith, early, place_lt_end bits cursor small, end_of_more_in_walks (next_of cursor bits) goes_on) in
    omega (arith, before (place cursor) at (end_of (next_of cursor bits)) early, none_before (next_of cursor bits) at rest walk next)

pub once_from : (cursor at : ℕ) (bits : List ℕ) → IsWalk cursor bits → place cursor ≤ at → at < 2 ^ 64 → moves_over at cursor bits ≡ 1
unfolding moves_over
once_from _ at _ (last cursor bits small zero') from below =
    omega (arith, inside (place cursor) at (end_of (next_of cursor bits)) from (omega (arith, below, ap end_of zero', end_of_zero)))
once_from _ at _ (more cursor bits rest small goes_on walk) from below =
    let joins : end_of (next_of cursor bits) ≡ place (next_of cursor bits) = end_of_more_in_walks (next_of cursor bits) goes_on in
    elim (cases_lt at (place (next_of cursor bits))) [
      | inl early ↦ omega (arith, inside (place cursor) at (end_of (next_of cursor bits)) from (omega (arith, early, joins)), none_before (next_of cursor bits) at rest walk early)
      | inr late ↦ omega (arith, behind (place cursor) at (end_of (next_of cursor bits)) (omega (arith, late, joins)), once_from (next_of cursor bits) at rest walk late below)
    ]

-- a move whose interval has an element's place gives its bucket
equal : (a b : ℕ) → a ≡ b → one_if (a == b) ≡ 1
equal a b e = grind (arith, nat_tests)

at_most_one : (b : Bool) → one_if b ≤ 1
at_most_one true = omega arith
at_most_one false = omega arith

met_inside : (cursor hash bits : ℕ) → bits < 64 → one_if (nat_le (place cursor) (place hash) && nat_lt (place hash) (end_of (next_of cursor bits))) ≤ one_if (hash % 2 ^ bits == cursor % 2 ^ bits)
met_inside cursor hash bits small = elim (cases_lt (place hash) (place cursor)) [
  | inl early ↦ omega (arith, before (place cursor) (place hash) (end_of (next_of cursor bits)) early)
  | inr from ↦ elim (cases_lt (place hash) (end_of (next_of cursor bits))) [
    | inl to ↦
        (let same : hash % 2 ^ bits ≡ cursor % 2 ^ bits = (bucket_of bits cursor (next_of cursor bits) small (end_of_next_of bits cursor small)).only hash
        (omega (arith, from, block_start_le (64 - bits) (place cursor))) to in
        omega (arith, equal (hash % 2 ^ bits) (cursor % 2 ^ bits) same, at_most_one (nat_le (place cursor) (place hash) && nat_lt (place hash) (end_of (next_of cursor bits)))))
    | inr late ↦ omega (arith, behind (place cursor) (place hash) (end_of (next_of cursor bits)) late)
  ]
]

met_often : (cursor hash : ℕ) (bits : List ℕ) → IsWalk cursor bits → moves_over (place hash) cursor bits ≤ meetings hash cursor bits
unfolding moves_over meetings
met_often _ hash _ (last cursor bits small zero') = omega (arith, met_inside cursor hash bits small)
met_often _ hash _ (more cursor bits rest small goes_on walk) = omega (arith, met_inside cursor hash bits small, met_often (next_of cursor bits) hash rest walk)

-- over one table, from the start of a block to the end of all
module _ (bits : ℕ) (small : bits < 64) where
  block_end_at : (n c : ℕ) → place c ≡ n * 2 ^ (64 - bits) → end_of (next_of c bits) ≡ (n + 1) * 2 ^ (64 - bits)
  block_end_at n c e = end_of_next_of bits c small ∙ ap (λ (x : ℕ). (x + 1) * 2 ^ (64 - bits)) (ap (λ (x : ℕ). x / 2 ^ (64 - bits)) e ∙ shl-shr n (64 - bits))

  all_blocks : 2 ^ bits * 2 ^ (64 - bits) ≡ 2 ^ 64
  all_blocks = let width : bits + (64 - bits) ≡ 64 = omega arith in sym (pow-add 2 bits (64 - bits)) ∙ ap (λ (x : ℕ). 2 ^ x) width

  walk_on : (m n c : ℕ) → place c ≡ n * 2 ^ (64 - bits) → n + suc m ≡ 2 ^ bits → IsWalk c (replicate (suc m) bits)
  walk_on zero n c e left =
      let count : n + 1 ≡ 2 ^ bits = omega arith in
      let whole : block_end (64 - bits) (place c) ≡ 2 ^ 64 = sym (end_of_next_of bits c small) ∙ (block_end_at n c e ∙ (ap (λ (x : ℕ). x * 2 ^ (64 - bits)) count ∙ all_blocks)) in
      last c bits small (next_is bits c small ∙ (ap (λ (x : ℕ). reversed 64 (x % 2 ^ 64)) whole ∙ reversed_zero 64))
  walk_on (suc m) n c e left =
      let goes_on : next_of c bits ≢ 0 = λ stop.
      (let fewer : n + 2 ≤ 2 ^ bits = omega arith in omega (
        arith,
        block_end_at n c e,
        ap end_of stop,
        end_of_zero,
        mul-le-mul_right (2 ^ (64 - bits)) fewer,
        all_blocks,
        add-mul n 1 (2 ^ (64 - bits)),
        add-mul n 2 (2 ^ (64 - bits)),
        pow_pos (64 - bits),
      )) in
      more c bits (replicate (suc m) bits) small goes_on (walk_on m (n + 1) (next_of c bits) (sym (end_of_more_in_walks (next_of c bits) goes_on) ∙ block_end_at n c e) (omega (arith, left)))

  pub walk_all : IsWalk 0 (replicate (2 ^ bits) bits)
  walk_all =
      let count : suc (2 ^ bits - 1) ≡ 2 ^ bits = omega (arith, pow_pos bits) in
      subst (λ (n : ℕ). IsWalk 0 (replicate n bits)) count (walk_on (2 ^ bits - 1) 0 0 (omega (arith, reversed_zero 64)) (omega (arith, pow_pos bits)))

-- from cursor 0 the whole
pub whole_walk : (at : ℕ) (bits : List ℕ) → IsWalk 0 bits → at < 2 ^ 64 → moves_over at 0 bits ≡ 1
whole_walk at bits walk below = once_from 0 at bits walk (omega (arith, reversed_zero 64)) below

-- no element is left out
pub met_once : (hash : ℕ) (bits : List ℕ) → IsWalk 0 bits → 0 < meetings hash 0 bits
met_once hash bits walk = omega (arith, met_often 0 hash bits walk, whole_walk (place hash) bits walk (reversed_below 64 hash))
