-- What a move gives of an item: by the place of its hash, at most once.
use Rattle.std.proofs.Common.{◌≡◌, inl, inr, ℕ, zero, suc, ◌+◌, ◌-◌, ◌*◌, ◌/◌, ◌%◌, ◌^◌, ◌≤◌, ◌<◌, List, ◌++◌, refl, sym, ◌∙◌, arith}
use Rattle.std.proofs.lemmas.Bool.{cases_eq, cases_lt}
use Rattle.std.proofs.lemmas.Nat.{pow_pos, le-div, div_below}
use Rattle.std.proofs.Math.Nat.{mod-eq_of_lt}
use Rattle.rev_cursor.specs.Place.{reversed, place, block_end, block_start}
use Rattle.rev_cursor.specs.Span.{times}
use Rattle.rev_cursor.proofs.Reversal.{reversed_twice}
use Rattle.rev_cursor.proofs.Places.{low_from_reversed, reversed_from_low, block_start_le}
use Rattle.rehash_dict.specs.Scan.{turn, blocks_from, first_block, last_block}
use Rattle.rehash_dict.proofs.Counts.{times-append}
use Rattle.rehash_dict.proofs.BlockPlaces.{place_high, in_bucket_64, from_first, to_last, whole_end, whole_start, first_below_last, block_below_in_block_places, last_le}

-- an item with this hash stands so often in the bucket of its hash, and in no other
pub record Weighs (rows : List (List ℕ)) (bits i hash often : ℕ) : Type 0 where
  pub here : (v : ℕ) → hash % 2 ^ bits ≡ v % 2 ^ bits → times i (turn rows bits v) ≡ often
  pub away : (v : ℕ) → (hash % 2 ^ bits ≡ v % 2 ^ bits → ⊥) → times i (turn rows bits v) ≡ 0

module _ (rows : List (List ℕ)) (bits i hash often : ℕ) (w : Weighs rows bits i hash often) where
  pub turn_le : (v : ℕ) → times i (turn rows bits v) ≤ often
  turn_le v = elim (cases_eq (hash % 2 ^ bits) (v % 2 ^ bits)) [
    | inl same ↦ omega (arith, w.here v same)
    | inr other ↦ omega (arith, w.away v other)
  ]

  in_own : (n : ℕ) → n < 2 ^ bits → reversed bits hash ≡ n → times i (turn rows bits (reversed bits n)) ≡ often
  in_own n below h = w.here (reversed bits n) (low_from_reversed bits hash (reversed bits n) (h ∙ sym (reversed_twice bits n ∙ mod-eq_of_lt below)))

  in_no_other : (n : ℕ) → n < 2 ^ bits → (reversed bits hash ≡ n → ⊥) → times i (turn rows bits (reversed bits n)) ≡ 0
  in_no_other n below h = w.away (reversed bits n) (λ same. h (reversed_from_low bits hash (reversed bits n) same ∙ reversed_twice bits n ∙ mod-eq_of_lt below))

  pub blocks_past : (count n : ℕ) → n + count ≤ 2 ^ bits → reversed bits hash < n → times i (blocks_from rows bits count n) ≡ 0
  unfolding blocks_from
  blocks_past zero n within h = refl
  blocks_past (suc count) n within h = omega (
    arith,
    times-append i (turn rows bits (reversed bits n)) (blocks_from rows bits count (suc n)),
    in_no_other n (omega arith) (λ q. omega arith),
    blocks_past count (suc n)
        (omega arith) (omega arith),
  )

  pub blocks_over : (count n : ℕ) → n + count ≤ 2 ^ bits → n + count ≤ reversed bits hash → times i (blocks_from rows bits count n) ≡ 0
  unfolding blocks_from
  blocks_over zero n within over = refl
  blocks_over (suc count) n within over = omega (
    arith,
    times-append i (turn rows bits (reversed bits n)) (blocks_from rows bits count (suc n)),
    in_no_other n (omega arith) (λ q. omega arith),
    blocks_over count (suc n)
        (omega arith) (omega arith),
  )

  pub blocks_one : (count n : ℕ) → n + count ≤ 2 ^ bits → n ≤ reversed bits hash → reversed bits hash < n + count → times i (blocks_from rows bits count n) ≡ often
  unfolding blocks_from
  blocks_one zero n within from to = absurd (omega arith)
  blocks_one (suc count) n within from to = elim (cases_eq (reversed bits hash) n) [
    | inl here ↦ omega
        (arith, times-append i (turn rows bits (reversed bits n)) (blocks_from rows bits count (suc n)), in_own n (omega arith) here, blocks_past count (suc n) (omega arith) (omega arith))
    | inr other ↦ omega (
      arith,
      times-append i (turn rows bits (reversed bits n)) (blocks_from rows bits count (suc n)),
      in_no_other n (omega arith) other,
      blocks_one count (suc n) (omega arith)
          (omega arith) (omega arith),
    )
  ]

  pub blocks_le : (count n : ℕ) → n + count ≤ 2 ^ bits → times i (blocks_from rows bits count n) ≤ often
  blocks_le count n within = elim (cases_lt (reversed bits hash) n) [
    | inl past ↦ omega (arith, blocks_past count n within past)
    | inr from ↦ elim (cases_lt (reversed bits hash) (n + count)) [
      | inl inside ↦ omega (arith, blocks_one count n within from inside)
      | inr over ↦ omega (arith, blocks_over count n within over)
    ]
  ]

within_table : (small large v : ℕ) → small ≤ large → large < 64 → first_block large v + (last_block small large v - first_block large v) ≤ 2 ^ large
within_table small large v order width = omega (arith, block_below_in_block_places large v width, last_le small large v order width)

-- a move by turns
abbrev pub by_turns : List (List ℕ) → List (List ℕ) → ℕ → ℕ → ℕ → List ℕ
by_turns smaller larger small large v = turn smaller small v ++ blocks_from larger large (last_block small large v - first_block large v) (first_block large v)

-- what the interval of the move has is given, what lies behind or before it is not
pub record Given (found : List ℕ) (i hash v small often : ℕ) : Type 0 where
  pub most : times i found ≤ often
  pub whole : place v ≤ place hash → place hash < block_end (64 - small) (place v) → times i found ≡ often
  pub over : block_end (64 - small) (place v) ≤ place hash → times i found ≡ 0
  pub under : place hash < block_start (64 - small) (place v) → times i found ≡ 0

module _ (small v hash : ℕ) (narrow : small < 64) where
  apart_over : block_end (64 - small) (place v) ≤ place hash → hash % 2 ^ small ≡ v % 2 ^ small → ⊥
  apart_over over same =
      let above : place v / 2 ^ (64 - small) + 1 ≤ reversed small hash =
      omega (arith, place_high small hash narrow, le-div (place v / 2 ^ (64 - small) + 1) (place hash) (2 ^ (64 - small)) (pow_pos (64 - small)) over) in
      omega (arith, reversed_from_low small hash v same, place_high small v narrow)

  apart_under : place hash < block_start (64 - small) (place v) → hash % 2 ^ small ≡ v % 2 ^ small → ⊥
  apart_under under same =
      let below : reversed small hash < place v / 2 ^ (64 - small) =
      omega (arith, place_high small hash narrow, div_below (place hash) (2 ^ (64 - small)) (place v / 2 ^ (64 - small)) (pow_pos (64 - small)) under) in
      omega (arith, reversed_from_low small hash v same, place_high small v narrow)

  -- of one bucket
  pub given_turn : (rows : List (List ℕ)) (i often : ℕ) → Weighs rows small i hash often → Given (turn rows small v) i hash v small often
  given_turn rows i often w = record {
    most = turn_le rows small i hash often w v;
    whole = λ from to. w.here v (in_bucket_64 small v hash narrow from to);
    over = λ over. w.away v (apart_over over);
    under = λ under. w.away v (apart_under under);
  }

  -- of a bucket and the larger table's
  pub given_turns : (smaller larger : List (List ℕ)) (large i a b : ℕ) → small ≤ large → large < 64 → Weighs smaller small i hash a → Weighs larger large i hash b
      → Given (by_turns smaller larger small large v) i hash v small (a + b)
  given_turns smaller larger large i a b order width ws wl =
      let t = given_turn smaller i a ws in
      let split : times i (by_turns smaller larger small large v) ≡ times i (turn smaller small v) + times i
      (blocks_from larger large (last_block small large v - first_block large v) (first_block large v)) =
      times-append i (turn smaller small v) (blocks_from larger large (last_block small large v - first_block large v) (first_block large v)) in
      let more : first_block large v < last_block small large v = first_below_last small large v order width in
      record {
        most = omega (arith, t.most, blocks_le larger large i hash b wl (last_block small large v - first_block large v) (first_block large v) (within_table small large v order width));
        whole = λ from to. omega (
          arith,
          t.whole from to,
          blocks_one larger large i hash b wl (last_block small large v - first_block large v) (first_block large v) (within_table small large v order width)
              (from_first large v hash width from) (omega (arith, to_last small large v hash order width to)),
        );
        over = λ over.
            let beyond : last_block small large v ≤ reversed large hash =
            omega (
              arith,
              place_high large hash width,
              le-div (last_block small large v) (place hash) (2 ^ (64 - large)) (pow_pos (64 - large))
                  (omega (arith, whole_end small large v order width)),
            ) in
            omega (
              arith,
              t.over over,
              blocks_over larger large i hash b wl (last_block small large v - first_block large v) (first_block large v) (within_table small large v order width)
                  (omega arith),
            );
        under = λ under.
            let before : reversed large hash < place v / 2 ^ (64 - small) * 2 ^ (large - small) =
            omega (
              arith,
              place_high large hash width,
              div_below (place hash) (2 ^ (64 - large)) (place v / 2 ^ (64 - small) * 2 ^ (large - small)) (pow_pos (64 - large))
                  (omega (arith, whole_start small large v order width)),
            ) in
            let first : place v / 2 ^ (64 - small) * 2 ^ (large - small) ≤ first_block large v =
            le-div (place v / 2 ^ (64 - small) * 2 ^ (large - small)) (place v) (2 ^ (64 - large)) (pow_pos (64 - large))
            (omega (arith, whole_start small large v order width, block_start_le (64 - small) (place v))) in
            omega (
              arith,
              t.under under,
              blocks_past larger large i hash b wl (last_block small large v - first_block large v) (first_block large v) (within_table small large v order width)
                  (omega arith),
            );
      }
