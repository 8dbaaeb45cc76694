-- The move over the tables as the SCAN commands make it, and by turns.
use Rattle.std.proofs.Common.{◌≡◌, ◌⊎◌, inl, inr, ℕ, zero, suc, ◌+◌, ◌-◌, ◌*◌, ◌%◌, ◌^◌, ◌≤◌, ◌<◌, Bool, true, false, ◌&&◌, List, [], ◌++◌, length, Option, Some, None, refl, sym, ap, ◌∙◌}
use Rattle.std.proofs.Common.{subst, arith, nat_lt, append-nil, eqb}
use Rattle.std.specs.Prelude.{nat_le, ◌==◌}
use Rattle.std.proofs.lemmas.Bool.{cases_eq, cases_lt, cond-true, cond-false, eq-eqb, ne_eqb, and_from, and_left, and_right}
use Rattle.std.proofs.lemmas.Bool.Decides.{nat_tests}
use Rattle.std.proofs.lemmas.Nat.{pow_below, pow_pos}
use Rattle.std.proofs.Math.Nat.{pow-suc}
use Rattle.rev_cursor.specs.Place.{reversed, place, end_of, next_of, block_end, block_start}
use Rattle.rev_cursor.specs.Span.{times, Span, StartsAt}
use Rattle.rev_cursor.proofs.Reversal.{reversed_below}
use Rattle.rev_cursor.proofs.Places.{end_of_next_of, lt_block_end}
use Rattle.rehash_dict.specs.Tables.{bucket, count}
use Rattle.rehash_dict.specs.Table.{Element, Table, at_item, item}
use Rattle.rehash_dict.specs.Placed.{IsSize, Stand, IsPlaced}
use Rattle.rehash_dict.specs.Placed.IsSize.{no_table, power}
use Rattle.rehash_dict.specs.Scan.{bits_from, bits_of, turn, walk, moved_over, smaller_of, larger_of, scanned, turns_of, turn_at, turns_from, blocks_from, first_block, last_block}
use Rattle.rehash_dict.specs.ScanPlaces.{place_in, CanStand}
use Rattle.rehash_dict.proofs.Powers.{pow_le}
use Rattle.rehash_dict.proofs.Stands.{flip, vacant_out}
use Rattle.rehash_dict.proofs.Rooms.{no_rows}
use Rattle.rev_cursor.proofs.Walks.{end_of_zero}
use Rattle.rehash_dict.proofs.BlockPlaces.{aligned, first_below_last, last_le}
use Rattle.rehash_dict.proofs.WalkLaw.{walked}
use Rattle.rehash_dict.proofs.Moved.{Weighs, Given, by_turns, given_turn, given_turns}

-- ---- bits

-- counting up from no more than b, and far enough, 2 ^ b buckets are told apart by b bits
bits_are : (more k b : ℕ) → k ≤ b → b ≤ k + more → bits_from more k (2 ^ b) ≡ b
unfolding bits_from
bits_are zero k b from to = omega arith
bits_are (suc more) k b from to = elim (cases_eq k b) [
  | inl here ↦
      (let fits : nat_le (2 ^ b) (2 ^ k) ≡ true = is_le (2 ^ b) (2 ^ k) (pow_le b k (omega arith)) in
      cond-true _ _ _ fits ∙ here)
  | inr later ↦
      (let small : nat_le (2 ^ b) (2 ^ k) ≡ false = is_not (2 ^ b) (2 ^ k) (pow_below k b (omega arith)) in
      cond-false _ _ _ small ∙ bits_are more (suc k) b (omega arith) (omega arith))
]
  where
    is_le : (x y : ℕ) → x ≤ y → nat_le x y ≡ true
    is_le x y h = grind (arith, nat_tests)

    is_not : (x y : ℕ) → y < x → nat_le x y ≡ false
    is_not x y h = grind (arith, nat_tests)

-- 2 ^ b buckets are told apart by b bits, for b below 64
pub bits_of_power : (b n : ℕ) → n ≡ 2 ^ b → b < 64 → bits_of n ≡ b
unfolding bits_of
bits_of_power b n e lt = ap (bits_from 64 0) e ∙ bits_are 64 0 b (omega arith) (omega arith)

-- a table's size, by its bits
pub record IsWidth (n bits : ℕ) : Type 0 where
  pub power : n ≡ 2 ^ bits
  pub many : 2 ≤ bits
  pub few : bits < 64
  pub is : bits_of n ≡ bits

-- the size of a table with buckets is a power of two, of at least 2 and fewer than 64 bits
pub width_of : (n : ℕ) → IsSize n → 0 < n → IsWidth n (bits_of n)
width_of n (no_table e) some = absurd (omega arith)
width_of n (power bits e low high) some =
    let is : bits_of n ≡ bits = bits_of_power bits n e high in
    record { power = e ∙ ap (λ b. 2 ^ b) (sym is); many = omega arith; few = omega arith; is = refl }

-- the binary logarithm of a table's size, rounded down, is the number of its bits
pub log_is : (n r : ℕ) → IsSize n → 2 ^ r ≤ n → n < 2 * 2 ^ r → r ≡ bits_of n
log_is n r (no_table e) low high = absurd (omega (arith, pow_pos r))
log_is n r (power bits e a b) low high =
    let is : bits_of n ≡ bits = bits_of_power bits n e b in
    elim (cases_lt r bits) [
      | inl under ↦ absurd (omega (arith, e, pow_le (suc r) bits under, pow-suc 2 r))
      | inr over ↦ elim (cases_eq r bits) [
        | inl here ↦ omega arith
        | inr ne ↦ absurd (omega (arith, e, pow_below bits r (omega arith)))
      ]
    ]

-- ---- the smaller and the larger table

-- the smaller table has buckets, no more than the larger one, and both sizes are those of tables
pub record IsOrdered (older newer : List (List ℕ)) : Type 0 where
  pub some : 0 < length (smaller_of older newer)
  pub order : length (smaller_of older newer) ≤ length (larger_of older newer)
  pub small_size : IsSize (length (smaller_of older newer))
  pub large_size : IsSize (length (larger_of older newer))

-- two tables with buckets are in order: the smaller one has no more buckets than the larger one
pub ordered : {V : Type 0} (items : List (Option (Element V))) (older newer : List (List ℕ)) → Stand items older newer → 0 < length older → 0 < length newer → IsOrdered older newer
ordered items older newer s a b = elim (cases_lt (length newer) (length older)) [
  | inl less ↦
      (let test : (nat_lt 0 (length newer) && nat_lt (length newer) (length older)) ≡ true = and_from _ _ (is_lt 0 (length newer) b) (is_lt (length newer) (length older) less) in
      let small : smaller_of older newer ≡ newer = cond-true _ _ _ test in
      let large : larger_of older newer ≡ older = cond-true _ _ _ test in
      record {
        some = omega (arith, ap length small);
        order = omega (arith, ap length small, ap length large);
        small_size = subst (λ r. IsSize (length r)) (sym small) s.newer_size;
        large_size = subst (λ r. IsSize (length r)) (sym large) s.older_size;
      })
  | inr more ↦
      (let test : (nat_lt 0 (length newer) && nat_lt (length newer) (length older)) ≡ false = and_right _ _ (not_lt (length newer) (length older) more) in
      let small : smaller_of older newer ≡ older = cond-false _ _ _ test in
      let large : larger_of older newer ≡ newer = cond-false _ _ _ test in
      record {
        some = omega (arith, ap length small);
        order = omega (arith, ap length small, ap length large);
        small_size = subst (λ r. IsSize (length r)) (sym small) s.older_size;
        large_size = subst (λ r. IsSize (length r)) (sym large) s.newer_size;
      })
]
  where
    is_lt : (x y : ℕ) → x < y → nat_lt x y ≡ true
    is_lt x y h = grind (arith, nat_tests)

    not_lt : (x y : ℕ) → y ≤ x → nat_lt x y ≡ false
    not_lt x y h = grind (arith, nat_tests)

-- where there is no newer table, the smaller one is the older one
pub smaller_one : (older newer : List (List ℕ)) → length newer ≤ 0 → smaller_of older newer ≡ older
smaller_one older newer h = (let test : nat_lt 0 (length newer) ≡ false = no_lt (length newer) h in cond-false _ _ _ (and_left _ _ test))
  where
    no_lt : (n : ℕ) → n ≤ 0 → nat_lt 0 n ≡ false
    no_lt n h = grind (arith, nat_tests)

-- ---- how often an element stands

module _ {V : Type 0} where
  -- an element stands in a table only in the bucket of its hash, as often as that bucket names it
  pub weighs : (items : List (Option (Element V))) (a b : List (List ℕ)) (bits i : ℕ) (e : Element V) → Stand items a b → at_item items i ≡ Some e → length a ≡ 2 ^ bits
      → Weighs a bits i e.hash (times i (bucket a (e.hash % length a)))
  weighs items a b bits i e s found size = record {
    here = λ v same. ap (λ k. times i (bucket a k)) (sym same ∙ ap (λ n. e.hash % n) (sym size));
    away = λ v other. none v other (times i (turn a bits v)) refl;
  }
    where
      none : (v : ℕ) → (e.hash % 2 ^ bits ≡ v % 2 ^ bits → ⊥) → (n : ℕ) → times i (turn a bits v) ≡ n → n ≡ 0
      none v other zero h = refl
      none v other (suc n) h =
          let p = s.of_older (v % 2 ^ bits) i (omega arith) in
          let one : p.0 ≡ e = (let q : Some p.0 ≡ Some e = sym p.1 ∙ found in cc) in
          absurd (other (ap (λ m. e.hash % m) (sym size) ∙ ap (λ x. x.hash % length a) (sym one) ∙ p.2))

  -- a vacant item number stands in no bucket of a table
  pub weighs_none : (items : List (Option (Element V))) (a b : List (List ℕ)) (bits i : ℕ) → Stand items a b → at_item items i ≡ None → Weighs a bits i 0 0
  weighs_none items a b bits i s none = record { here = λ v same. vacant_out items a i (v % 2 ^ bits) s.of_older none; away = λ v other. vacant_out items a i (v % 2 ^ bits) s.of_older none }

-- of both tables
pub record WeighBoth (older newer : List (List ℕ)) (i hash often : ℕ) : Type 0 where
  pub a : ℕ
  pub b : ℕ
  pub small : Weighs (smaller_of older newer) (bits_of (length (smaller_of older newer))) i hash a
  pub large : Weighs (larger_of older newer) (bits_of (length (larger_of older newer))) i hash b
  pub sum : a + b ≡ often

-- the counts of an item in two tables are those in the smaller and the larger one, with the same sum
pub weigh_both : (older newer : List (List ℕ)) (i hash a b : ℕ) → Weighs older (bits_of (length older)) i hash a → Weighs newer (bits_of (length newer)) i hash b → WeighBoth older newer i hash (a + b)
weigh_both older newer i hash a b wa wb = go (nat_lt 0 (length newer) && nat_lt (length newer) (length older)) refl
  where
    go : (t : Bool) → (nat_lt 0 (length newer) && nat_lt (length newer) (length older)) ≡ t → WeighBoth older newer i hash (a + b)
    go true h = record {
      a = b;
      b = a;
      small = subst (λ (r : List (List ℕ)). Weighs r (bits_of (length r)) i hash b) (sym (cond-true _ newer older h)) wb;
      large = subst (λ (r : List (List ℕ)). Weighs r (bits_of (length r)) i hash a) (sym (cond-true _ older newer h)) wa;
      sum = omega arith;
    }
    go false h = record {
      a = a;
      b = b;
      small = subst (λ (r : List (List ℕ)). Weighs r (bits_of (length r)) i hash a) (sym (cond-false _ newer older h)) wa;
      large = subst (λ (r : List (List ℕ)). Weighs r (bits_of (length r)) i hash b) (sym (cond-false _ older newer h)) wb;
      sum = refl;
    }

-- ---- the move by turns

module _ (older newer : List (List ℕ)) (v : ℕ) where
  -- the bits of the smaller table
  abbrev small : ℕ
  small = bits_of (length (smaller_of older newer))

  -- the bits of the larger table
  abbrev large : ℕ
  large = bits_of (length (larger_of older newer))

  -- the turns behind the first give consecutive buckets of the larger table, by their reversed numbers
  turns_are : (count k : ℕ) → turns_from older newer v count (suc k) ≡ blocks_from (larger_of older newer) large count (first_block large v + k)
  unfolding turns_from blocks_from
  turns_are zero k = refl
  turns_are (suc count) k =
      let not_first : eqb (suc k) 0 ≡ false = ne_eqb (suc k) 0 (λ h. omega arith) in
      let back : suc k - 1 ≡ k = omega arith in
      let on : suc (first_block large v + k) ≡ first_block large v + suc k = omega arith in
      let head : turn_at older newer v (suc k) ≡ turn (larger_of older newer) large (reversed large (first_block large v + k)) = cond-false _ _ _ not_first
      ∙ ap (λ n. turn (larger_of older newer) large (reversed large (first_block large v + n))) back in
      let tail : turns_from older newer v count (suc (suc k)) ≡ blocks_from (larger_of older newer) large count (suc (first_block large v + k)) = turns_are count (suc k)
      ∙ ap (blocks_from (larger_of older newer) large count) (sym on) in
      λ i. head i ++ tail i

  -- all turns give the cursor's bucket of the smaller table, and then consecutive ones of the larger table
  pub turns_two : (count : ℕ) → turns_from older newer v (suc count) 0 ≡ turn (smaller_of older newer) small v ++ blocks_from (larger_of older newer) large count (first_block large v)
  unfolding turns_from
  turns_two count = ap (λ r. turn (smaller_of older newer) small v ++ r) (turns_are count 0 ∙ ap (blocks_from (larger_of older newer) large count) (omega arith))

-- what a move is where there are two tables, and where there is one
pub record IsMove (older newer : List (List ℕ)) (v small : ℕ) : Type 0 where
  pub narrow : small < 64
  pub items : (scanned older newer v).0 ≡ turns_from older newer v (turns_of older newer v) 0
  pub next : (scanned older newer v).1 ≡ next_of v small
  pub given : (i hash often : ℕ) → WeighBoth older newer i hash often → Weighs older (bits_of (length older)) i hash often ⊎ (0 < length newer) → Given (scanned older newer v).0 i hash v small often

-- a number below another passes the test for less
is_lt : (x y : ℕ) → x < y → nat_lt x y ≡ true
is_lt x y h = grind (arith, nat_tests)

-- a number not below another fails the test for less
not_lt : (x y : ℕ) → y ≤ x → nat_lt x y ≡ false
not_lt x y h = grind (arith, nat_tests)

-- where both tables have buckets, a scan at a cursor is a move by turns
pub move_two : {V : Type 0} (items : List (Option (Element V))) (older newer : List (List ℕ)) (v : ℕ) → Stand items older newer → 0 < length older → 0 < length newer
    → IsMove older newer v (bits_of (length (smaller_of older newer)))
unfolding scanned
move_two items older newer v s a b =
    let o = ordered items older newer s a b in
    let ws = width_of (length (smaller_of older newer)) o.small_size o.some in
    let wl = width_of (length (larger_of older newer)) o.large_size (omega (arith, o.some, o.order)) in
    let below : bits_of (length (smaller_of older newer)) ≤ bits_of (length (larger_of older newer)) =
    le_bits (bits_of (length (smaller_of older newer))) (bits_of (length (larger_of older newer))) (omega (arith, ws.power, wl.power, o.order)) in
    let more : first_block (bits_of (length (larger_of older newer))) v < last_block (bits_of (length (smaller_of older newer))) (bits_of (length (larger_of older newer))) v =
    first_below_last _ _ v below wl.few in
    let within : last_block (bits_of (length (smaller_of older newer))) (bits_of (length (larger_of older newer))) v ≤ 2 ^ bits_of (length (larger_of older newer)) = last_le _ _ v below wl.few in
    let count : ℕ = last_block (bits_of (length (smaller_of older newer))) (bits_of (length (larger_of older newer))) v - first_block (bits_of (length (larger_of older newer))) v - 1 in
    let all : last_block (bits_of (length (smaller_of older newer))) (bits_of (length (larger_of older newer))) v - first_block (bits_of (length (larger_of older newer))) v ≡ suc count =
    omega arith in
    let fuel : length (larger_of older newer) ≡ suc (count + (length (larger_of older newer) - suc count)) = omega (arith, wl.power) in
    let walks : walk (larger_of older newer) (bits_of (length (smaller_of older newer))) (bits_of (length (larger_of older newer))) (length (larger_of older newer)) v
    ≡ (
      blocks_from (larger_of older newer) (bits_of (length (larger_of older newer))) (suc count) (first_block (bits_of (length (larger_of older newer))) v),
      next_of v
          (bits_of (length (smaller_of older newer))),
    )
    = ap (λ f. walk (larger_of older newer) (bits_of (length (smaller_of older newer))) (bits_of (length (larger_of older newer))) f v) fuel
    ∙ walked (larger_of older newer) (bits_of (length (smaller_of older newer))) (bits_of (length (larger_of older newer))) count (length (larger_of older newer) - suc count) v below
    wl.few (omega arith) in
    let some_older : (length older == 0) ≡ false = ne_eqb (length older) 0 (λ h. omega arith) in
    let going : nat_lt 0 (length newer) ≡ true = is_lt 0 (length newer) b in
    let is : scanned older newer v ≡ moved_over (smaller_of older newer) (larger_of older newer) v = cond-false _ _ _ some_older ∙ cond-true _ _ _ going in
    let found : (scanned older newer v).0 ≡ by_turns (smaller_of older newer) (larger_of older newer) (bits_of (length (smaller_of older newer))) (bits_of (length (larger_of older newer))) v
    = ap (λ p. p.0) is ∙ ap (λ p. turn (smaller_of older newer) (bits_of (length (smaller_of older newer))) v ++ p.0) walks
    ∙ ap
    (λ n. turn (smaller_of older newer) (bits_of (length (smaller_of older newer))) v
    ++ blocks_from (larger_of older newer) (bits_of (length (larger_of older newer))) n (first_block (bits_of (length (larger_of older newer))) v)) (sym all) in
    let turns : turns_of older newer v ≡ suc
    (last_block (bits_of (length (smaller_of older newer))) (bits_of (length (larger_of older newer))) v - first_block (bits_of (length (larger_of older newer))) v) =
    cond-false _ _ _ some_older ∙ cond-true _ _ _ going ∙ (omega arith) in
    record {
      narrow = ws.few;
      items = found ∙ sym
          (turns_two older newer v
          (last_block (bits_of (length (smaller_of older newer))) (bits_of (length (larger_of older newer))) v - first_block (bits_of (length (larger_of older newer))) v))
          ∙ ap (λ n. turns_from older newer v n 0) (sym turns);
      next = ap (λ p. p.1) is ∙ ap (λ p. p.1) walks;
      given = λ i hash often w either. subst (λ l. Given l i hash v (bits_of (length (smaller_of older newer))) often) (sym found)
          (subst
          (λ n. Given (by_turns (smaller_of older newer) (larger_of older newer) (bits_of (length (smaller_of older newer))) (bits_of (length (larger_of older newer))) v) i hash v
          (bits_of (length (smaller_of older newer))) n) w.sum
          (given_turns (bits_of (length (smaller_of older newer))) v hash ws.few (smaller_of older newer) (larger_of older newer) (bits_of (length (larger_of older newer))) i w.a w.b below
          wl.few w.small w.large));
    }
  where
    le_bits : (i j : ℕ) → 2 ^ i ≤ 2 ^ j → i ≤ j
    le_bits i j h = elim (cases_lt j i) [ inl over ↦ absurd (omega (arith, pow_below j i over)) | inr fine ↦ fine ]

-- where only the older table has buckets, a scan at a cursor is a move by turns
pub move_one : {V : Type 0} (items : List (Option (Element V))) (older newer : List (List ℕ)) (v : ℕ) → Stand items older newer → 0 < length older → length newer ≤ 0
    → IsMove older newer v (bits_of (length (smaller_of older newer)))
unfolding scanned turns_from
move_one items older newer v s a b =
    let one : smaller_of older newer ≡ older = smaller_one older newer b in
    let w = width_of (length older) s.older_size a in
    let same : bits_of (length (smaller_of older newer)) ≡ bits_of (length older) = ap (λ r. bits_of (length r)) one in
    let some_older : (length older == 0) ≡ false = ne_eqb (length older) 0 (λ h. omega arith) in
    let still : nat_lt 0 (length newer) ≡ false = not_lt 0 (length newer) b in
    let is : scanned older newer v ≡ (turn older (bits_of (length older)) v, next_of v (bits_of (length older))) = cond-false _ _ _ some_older ∙ cond-false _ _ _ still in
    let turns : turns_of older newer v ≡ suc zero = cond-false _ _ _ some_older ∙ cond-false _ _ _ still in
    let first : turn older (bits_of (length older)) v ≡ turns_from older newer v (suc zero) 0 = ap (λ (r : List (List ℕ)). turn r (bits_of (length r)) v) (sym one)
    ∙ sym (append-nil (turn (smaller_of older newer) (bits_of (length (smaller_of older newer))) v)) in
    record {
      narrow = omega (arith, w.few);
      items = ap (λ p. p.0) is ∙ first ∙ ap (λ n. turns_from older newer v n 0) (sym turns);
      next = ap (λ p. p.1) is ∙ ap (next_of v) (sym same);
      given = λ i hash often both either. elim either [
        | inl mine ↦ subst (λ l. Given l i hash v (bits_of (length (smaller_of older newer))) often) (sym (ap (λ p. p.0) is))
            (subst (λ n. Given (turn older (bits_of (length older)) v) i hash v n often) (sym same) (given_turn (bits_of (length older)) v hash w.few older i often mine))
        | inr two ↦ absurd (omega arith)
      ];
    }

-- ---- the laws of a scan

-- without a table a scan gives nothing and cursor 0
pub no_move : (older newer : List (List ℕ)) (v : ℕ) → length older ≤ 0 → scanned older newer v ≡ ([], 0)
unfolding scanned
no_move older newer v none = (let test : (length older == 0) ≡ true = eq-eqb (length older) 0 (omega arith) in cond-true _ _ _ test)

module _ {V : Type 0} where
  -- how often an item stands in the tables: once, or never where it isn't there
  both_some : (items : List (Option (Element V))) (older newer : List (List ℕ)) (i : ℕ) (e : Element V) → Stand items older newer → at_item items i ≡ Some e → 0 < length older
      → WeighBoth older newer i e.hash 1 × (Weighs older (bits_of (length older)) i e.hash 1 ⊎ (0 < length newer))
  both_some items older newer i e s found some =
      let wo = width_of (length older) s.older_size some in
      let a = weighs items older newer (bits_of (length older)) i e s found wo.power in
      elim (cases_lt 0 (length newer)) [
        | inl two ↦
            (let wn = width_of (length newer) s.newer_size two in
            let b = weighs items newer older (bits_of (length newer)) i e (flip items older newer s) found wn.power in
            (subst (WeighBoth older newer i e.hash) (s.once i e found) (weigh_both older newer i e.hash _ _ a b), inr two))
        | inr one ↦
            (let none : newer ≡ [] = no_rows newer one in
            let alone : times i (bucket older (e.hash % length older)) ≡ 1 = omega (arith, s.once i e found, ap (λ r. times i (bucket r (e.hash % length r))) none) in
            let only : Weighs older (bits_of (length older)) i e.hash 1 = subst (Weighs older (bits_of (length older)) i e.hash) alone a in
            let nowhere : Weighs newer (bits_of (length newer)) i e.hash 0 = subst (λ r. Weighs r (bits_of (length r)) i e.hash 0) (sym none) (record { here = λ v q. refl; away = λ v q. refl }) in
            (weigh_both older newer i e.hash 1 0 only nowhere, inl only))
      ]

  -- a vacant item number stands in neither table
  both_none : (items : List (Option (Element V))) (older newer : List (List ℕ)) (i : ℕ) → Stand items older newer → at_item items i ≡ None → WeighBoth older newer i 0 0
      × (Weighs older (bits_of (length older)) i 0 0 ⊎ (0 < length newer))
  both_none items older newer i s none = (
    weigh_both older newer i 0 0 0 (weighs_none items older newer (bits_of (length older)) i s none) (weighs_none items newer older (bits_of (length newer)) i (flip items older newer s) none),
    inl (weighs_none items older newer (bits_of (length older)) i s none),
  )

  -- where the older table has buckets, a scan at a cursor is a move by turns
  pub is_move : (items : List (Option (Element V))) (older newer : List (List ℕ)) (v : ℕ) → Stand items older newer → 0 < length older
      → IsMove older newer v (bits_of (length (smaller_of older newer)))
  is_move items older newer v s some = elim (cases_lt 0 (length newer)) [
    | inl two ↦ move_two items older newer v s some two
    | inr one ↦ move_one items older newer v s some one
  ]

  -- no element stands without a table
  nothing : (t : Table V) (i : ℕ) (e : Element V) → IsPlaced t → length t.older ≤ 0 → item t i ≡ Some e → ⊥
  nothing t i e p none found =
      let empty : t.older ≡ [] = no_rows t.older none in
      elim (cases_lt 0 (length t.newer)) [
        | inl two ↦ omega (arith, p.kept.waits two, ap count empty)
        | inr one ↦ omega (arith, p.kept.stand.once i e found, ap (λ r. times i (bucket r (e.hash % length r))) empty, ap (λ r. times i (bucket r (e.hash % length r))) (no_rows t.newer one))
      ]

  -- the element of a place
  placed_element : (t : Table V) (i at : ℕ) (o : Option (Element V)) → item t i ≡ o → place_in o ≡ Some at → (e : Element V) × (item t i ≡ Some e) × (place e.hash ≡ at)
  placed_element t i at None h q = cc
  placed_element t i at (Some e) h q = (e, h, cc)

  -- an item number without a place has no element
  no_element : (t : Table V) (i : ℕ) (o : Option (Element V)) → item t i ≡ o → place_in o ≡ None → item t i ≡ None
  no_element t i None h q = h
  no_element t i (Some e) h q = cc

  -- a scan gives each element from its cursor to the next one once, none from there on, and no vacant number
  pub move_spans : (t : Table V) (place_of : ℕ → Option ℕ) (v : ℕ) → CanStand t place_of → Span place_of v (scanned t.older t.newer v).1 (scanned t.older t.newer v).0
  move_spans t place_of v c = elim (cases_lt 0 (length t.older)) [
    | inl some ↦
        (let m = is_move t.items t.older t.newer v c.placed.kept.stand some in
        let ends : end_of (scanned t.older t.newer v).1 ≡ block_end (64 - bits_of (length (smaller_of t.older t.newer))) (place v) = ap end_of m.next
        ∙ end_of_next_of (bits_of (length (smaller_of t.older t.newer))) v m.narrow in
        record {
          on = omega (arith, ends, lt_block_end (64 - bits_of (length (smaller_of t.older t.newer))) (place v));
          once = λ i. most i (item t i) refl m;
          whole = λ i at h from to.
              let p = placed_element t i at (item t i) refl (sym (c.places i) ∙ h) in
              let b = both_some t.items t.older t.newer i p.0 c.placed.kept.stand p.1 some in
              (m.given i p.0.hash 1 b.0 b.1).whole (omega (arith, p.2)) (omega (arith, p.2, ends));
          low = λ i at h over.
              let p = placed_element t i at (item t i) refl (sym (c.places i) ∙ h) in
              let b = both_some t.items t.older t.newer i p.0 c.placed.kept.stand p.1 some in
              (m.given i p.0.hash 1 b.0 b.1).over (omega (arith, p.2, ends));
          real = λ i h.
              let b = both_none t.items t.older t.newer i c.placed.kept.stand (no_element t i (item t i) refl (sym (c.places i) ∙ h)) in
              omega (arith, (m.given i 0 0 b.0 b.1).most);
        })
    | inr none ↦
        (let empty = no_move t.older t.newer v none in
        let found : (scanned t.older t.newer v).0 ≡ [] = ap (λ p. p.0) empty in
        let next : (scanned t.older t.newer v).1 ≡ 0 = ap (λ p. p.1) empty in
        record {
          on = omega (arith, ap end_of next ∙ end_of_zero, reversed_below 64 v);
          once = λ i. omega (arith, ap (times i) found);
          whole = λ i at h from to. (let p = placed_element t i at (item t i) refl (sym (c.places i) ∙ h) in absurd (nothing t i p.0 c.placed none p.1));
          low = λ i at h over. ap (times i) found;
          real = λ i h. ap (times i) found;
        })
  ]
    where
      most : (i : ℕ) (o : Option (Element V)) → item t i ≡ o → IsMove t.older t.newer v (bits_of (length (smaller_of t.older t.newer))) → times i (scanned t.older t.newer v).0 ≤ 1
      most i None h m = elim (cases_lt 0 (length t.older)) [
        | inl some ↦ (let b = both_none t.items t.older t.newer i c.placed.kept.stand h in omega (arith, (m.given i 0 0 b.0 b.1).most))
        | inr none ↦ omega (arith, ap (times i) (ap (λ p. p.0) (no_move t.older t.newer v none)))
      ]
      most i (Some e) h m = elim (cases_lt 0 (length t.older)) [
        | inl some ↦ (let b = both_some t.items t.older t.newer i e c.placed.kept.stand h some in (m.given i e.hash 1 b.0 b.1).most)
        | inr none ↦ omega (arith, ap (times i) (ap (λ p. p.0) (no_move t.older t.newer v none)))
      ]

  -- a scan at the next cursor gives no element whose place is before that cursor
  pub move_starts : (t : Table V) (place_of : ℕ → Option ℕ) (v : ℕ) → CanStand t place_of → StartsAt place_of (scanned t.older t.newer v).1 (scanned t.older t.newer (scanned t.older t.newer v).1).0
  move_starts t place_of v c i at h under = elim (cases_lt 0 (length t.older)) [
    | inl some ↦
        (let m = is_move t.items t.older t.newer v c.placed.kept.stand some in
        let n = is_move t.items t.older t.newer (scanned t.older t.newer v).1 c.placed.kept.stand some in
        let p = placed_element t i at (item t i) refl (sym (c.places i) ∙ h) in
        let b = both_some t.items t.older t.newer i p.0 c.placed.kept.stand p.1 some in
        let start : block_start (64 - bits_of (length (smaller_of t.older t.newer))) (place (scanned t.older t.newer v).1) ≡ place (scanned t.older t.newer v).1
        = ap (λ x. block_start (64 - bits_of (length (smaller_of t.older t.newer))) (place x)) m.next ∙ aligned (bits_of (length (smaller_of t.older t.newer))) v m.narrow ∙ sym (ap place m.next) in
        (n.given i p.0.hash 1 b.0 b.1).under (omega (arith, p.2, start)))
    | inr none ↦ ap (times i) (ap (λ p. p.0) (no_move t.older t.newer (scanned t.older t.newer v).1 none))
  ]
