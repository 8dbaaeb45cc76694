-- The turns of a move, as numbers that fit.
use Rattle.std.proofs.Common.{◌≡◌, inl, inr, ℕ, zero, suc, ◌+◌, ◌-◌, ◌*◌, ◌/◌, ◌%◌, ◌^◌, ◌≤◌, ◌<◌, Bool, true, false, List, [], ◌∷◌, ◌++◌, length, take, append-nil, append_assoc, Option}
use Rattle.std.proofs.Common.{Some, IsSome, is_some, ◌&&◌, refl, sym, ap, ◌∙◌, subst, arith, nat_lt}
use Rattle.std.proofs.lemmas.Bool.{cases_eq, cases_lt, cond-true, cond-false, eq-eqb, ne_eqb}
use Rattle.std.proofs.lemmas.Bool.Decides.{nat_tests}
use Rattle.std.proofs.lemmas.Nat.{pow_below}
use Rattle.std.proofs.Math.Nat.{mod-eq_of_lt}
use Rattle.rev_cursor.specs.Place.{reversed, place}
use Rattle.rev_cursor.specs.Span.{times}
use Rattle.rev_cursor.proofs.Reversal.{reversed_twice}
use Rattle.rev_cursor.proofs.Places.{reversed_from_low}
use Rattle.rehash_dict.specs.Tables.{bucket}
use Rattle.rehash_dict.specs.Table.{Element, at_item}
use Rattle.rehash_dict.specs.Placed.{IsSize, Names, Stand}
use Rattle.rehash_dict.specs.Scan.{bits_of, turn, smaller_of, larger_of, turns_of, turn_at, turns_from, first_block, last_block, first_of, after_in, Extends}
use Rattle.rehash_dict.proofs.Counts.{times_here, times_past, times-append}
use Rattle.rehash_dict.proofs.Powers.{pow_le}
use Rattle.rehash_dict.proofs.BlockPlaces.{block_fits_in_block_places, last_whole, last_le, first_below_last, place_high}
use Rattle.rehash_dict.proofs.Scans.{ordered, width_of, smaller_one}

-- the blocks of a move from this place are at least one, lie within the larger table, and are 64-bit numbers
pub record IsWide (start s l : ℕ) : Type 0 where
  pub block_fits : start / 2 ^ (64 - s) + 1 < 2 ^ 64
  pub whole : (start / 2 ^ (64 - s) + 1) * 2 ^ (l - s) % 2 ^ 64 ≡ (start / 2 ^ (64 - s) + 1) * 2 ^ (l - s)
  pub more : start / 2 ^ (64 - l) < (start / 2 ^ (64 - s) + 1) * 2 ^ (l - s)
  pub within : (start / 2 ^ (64 - s) + 1) * 2 ^ (l - s) ≤ 2 ^ l
  pub below : 2 ^ l ≤ 2 ^ 63

-- at any cursor the blocks of a move are so, where the larger table has as many bits or more, below 64
pub wide : (v start s l : ℕ) → start ≡ place v → s ≤ l → l < 64 → IsWide start s l
wide v start s l is order few = subst (λ x. IsWide x s l) (sym is) (record {
  block_fits = block_fits_in_block_places s v (omega arith);
  whole = last_whole s l v order few;
  more = first_below_last s l v order few;
  within = last_le s l v order few;
  below = pow_le l 63 (omega arith);
})

-- where a power of two is no greater than another, so is its exponent
pub le_bits : (i j : ℕ) → 2 ^ i ≤ 2 ^ j → i ≤ j
le_bits i j h = elim (cases_lt j i) [ inl over ↦ absurd (omega (arith, pow_below j i over)) | inr fine ↦ fine ]

-- a number above 0 passes the test for that
pub is_lt : (n : ℕ) → 0 < n → nat_lt 0 n ≡ true
is_lt n h = grind (arith, nat_tests)

-- a number that isn't above 0 fails the test for that
pub not_lt : (n : ℕ) → n ≤ 0 → nat_lt 0 n ≡ false
not_lt n h = grind (arith, nat_tests)

module _ (older newer : List (List ℕ)) (v : ℕ) where
  -- without a table there is no turn
  pub turns_none : length older ≤ 0 → turns_of older newer v ≡ 0
  turns_none h = cond-true _ _ _ (eq-eqb (length older) 0 (omega arith))

  -- with one table there is one turn
  pub turns_one : 0 < length older → length newer ≤ 0 → turns_of older newer v ≡ 1
  turns_one a b = cond-false _ _ _ (ne_eqb (length older) 0 (λ h. omega arith)) ∙ cond-false _ _ _ (not_lt (length newer) b)

  -- with two tables there is one turn for the smaller, and one for each block of the larger in the interval
  pub turns_both : 0 < length older → 0 < length newer → turns_of older newer v ≡ 1 +
      (last_block (bits_of (length (smaller_of older newer))) (bits_of (length (larger_of older newer))) v - first_block (bits_of (length (larger_of older newer))) v)
  turns_both a b = cond-false _ _ _ (ne_eqb (length older) 0 (λ h. omega arith)) ∙ cond-true _ _ _ (is_lt (length newer) b)

  -- where there is a turn, the older table has buckets
  pub some_turn : (n : ℕ) → n < turns_of older newer v → 0 < length older
  some_turn n h = elim (cases_lt 0 (length older)) [ inl some ↦ some | inr none ↦ absurd (omega (arith, turns_none none)) ]

  -- where there is a turn behind the first, the newer table has buckets
  pub later_turn : (n : ℕ) → n < turns_of older newer v → 0 < n → 0 < length newer
  later_turn n h pos = elim (cases_lt 0 (length newer)) [ inl some ↦ some | inr none ↦ absurd (omega (arith, turns_one (some_turn n h) none)) ]

  -- each later turn gives the bucket of the larger table whose reversed number is the block of that turn
  pub turn_later : (n : ℕ) → 0 < n → turn_at older newer v n ≡ turn (larger_of older newer) (bits_of (length (larger_of older newer)))
      (reversed (bits_of (length (larger_of older newer))) (first_block (bits_of (length (larger_of older newer))) v + (n - 1)))
  turn_later n pos = cond-false _ _ _ (ne_eqb n 0 (λ h. omega arith))

module _ {V : Type 0} (items : List (Option (Element V))) (older newer : List (List ℕ)) (v : ℕ) (s : Stand items older newer) where
  -- where the older table has buckets, so has the smaller one
  pub small_some : 0 < length older → 0 < length (smaller_of older newer)
  small_some some = elim (cases_lt 0 (length newer)) [
    | inl two ↦ (ordered items older newer s some two).some
    | inr one ↦ omega (arith, ap length (smaller_one older newer one))
  ]

  -- the bucket of a turn is that of its number in the table
  pub turn_bucket : (rows : List (List ℕ)) (cursor at : ℕ) → IsSize (length rows) → 0 < length rows → at ≡ cursor % length rows → bucket rows at ≡ turn rows (bits_of (length rows)) cursor
  turn_bucket rows cursor at size some is = ap (bucket rows) (is ∙ ap (λ n. cursor % n) (width_of (length rows) size some).power)

  -- both tables, and the block of a later turn
  pub record IsLater (n : ℕ) : Type 0 where
    pub large : ℕ
    pub is : bits_of (length (larger_of older newer)) ≡ large
    pub few : large < 64
    pub power : length (larger_of older newer) ≡ 2 ^ large
    pub block : first_block large v + (n - 1) < 2 ^ large

  -- a turn behind the first has its block within the larger table, which has fewer than 64 bits
  pub later : (n : ℕ) → n < turns_of older newer v → 0 < n → IsLater n
  later n lt pos =
      let a = some_turn older newer v n lt in
      let b = later_turn older newer v n lt pos in
      let o = ordered items older newer s a b in
      let ws = width_of (length (smaller_of older newer)) o.small_size o.some in
      let wl = width_of (length (larger_of older newer)) o.large_size (omega (arith, o.some, o.order)) in
      let order = le_bits (bits_of (length (smaller_of older newer))) (bits_of (length (larger_of older newer))) (omega (arith, ws.power, wl.power, o.order)) in
      let w = wide v (place v) (bits_of (length (smaller_of older newer))) (bits_of (length (larger_of older newer))) refl order wl.few in
      record {
        large = bits_of (length (larger_of older newer));
        is = refl;
        few = wl.few;
        power = wl.power;
        block = omega (arith, turns_both older newer v a b, w.within, w.more);
      }

  -- what the code computes with
  pub record IsMeasured (small large start : ℕ) : Type 0 where
    pub order : small ≤ large
    pub wide : IsWide start small large
    pub turns : turns_of older newer v ≡ 1 + ((start / 2 ^ (64 - small) + 1) * 2 ^ (large - small) - start / 2 ^ (64 - large))

  -- the bits of both tables and the place of the cursor give the number of turns, in numbers that fit
  pub measured : (rs rl : List (List ℕ)) (small large start : ℕ) → 0 < length older → 0 < length newer → rs ≡ smaller_of older newer → rl ≡ larger_of older newer
      → small ≡ bits_of (length rs) → large ≡ bits_of (length rl) → start ≡ place v → IsMeasured small large start
  measured rs rl small large start a b is_s is_l small_is large_is start_is =
      let o = ordered items older newer s a b in
      let ws = width_of (length (smaller_of older newer)) o.small_size o.some in
      let wl = width_of (length (larger_of older newer)) o.large_size (omega (arith, o.some, o.order)) in
      let es : small ≡ bits_of (length (smaller_of older newer)) = small_is ∙ ap (λ r. bits_of (length r)) is_s in
      let el : large ≡ bits_of (length (larger_of older newer)) = large_is ∙ ap (λ r. bits_of (length r)) is_l in
      let order : bits_of (length (smaller_of older newer)) ≤ bits_of (length (larger_of older newer)) = le_bits _ _ (omega (arith, ws.power, wl.power, o.order)) in
      record {
        order = omega arith;
        wide = wide v start small large start_is (omega arith) (omega (arith, wl.few));
        turns = turns_both older newer v a b ∙ (λ i. 1 + ((sym start_is i / 2 ^ (64 - sym es i) + 1) * 2 ^ (sym el i - sym es i) - sym start_is i / 2 ^ (64 - sym el i)));
      }

-- ---- from turn to turn

-- from a turn on there is what it gives, and then what the turns from the next one on give
pub turns_step : (older newer : List (List ℕ)) (v last n : ℕ) → n < last → turns_from older newer v (last - n) n ≡ turn_at older newer v n ++ turns_from older newer v (last - (n + 1)) (n + 1)
unfolding turns_from
turns_step older newer v last n lt =
    let one : last - n ≡ suc (last - (n + 1)) = omega arith in
    let next : n + 1 ≡ suc n = omega arith in
    ap (λ c. turns_from older newer v c n) one ∙ ap (λ m. turn_at older newer v n ++ turns_from older newer v (last - (n + 1)) m) (sym next)

-- where no turns are left, nothing is given
pub turns_end : (older newer : List (List ℕ)) (v last n : ℕ) → last ≤ n → turns_from older newer v (last - n) n ≡ []
unfolding turns_from
turns_end older newer v last n over = (let none : last - n ≡ 0 = omega arith in ap (λ c. turns_from older newer v c n) none)

-- the first of a list that has one stays the first when another list is appended
pub first_of_append : (xs ys : List ℕ) (x : ℕ) (rest : List ℕ) → xs ≡ x ∷ rest → first_of (xs ++ ys) ≡ Some x
first_of_append [] ys x rest h = cc
first_of_append (z ∷ zs) ys x rest h = (let q : z ≡ x = cc in ap Some q)

-- in which turn a number stands
pub record InTurn (older newer : List (List ℕ)) (v at first count : ℕ) : Type 0 where
  pub number : ℕ
  pub from : first ≤ number
  pub to : number < first + count
  pub there : 0 < times at (turn_at older newer v number)

-- a number that the turns give stands in the bucket of one of them
pub in_turn : (older newer : List (List ℕ)) (v at count first : ℕ) → 0 < times at (turns_from older newer v count first) → InTurn older newer v at first count
unfolding turns_from
in_turn older newer v at zero first h = absurd (omega arith)
in_turn older newer v at (suc count) first h = elim (cases_lt 0 (times at (turn_at older newer v first))) [
  | inl here ↦ record { number = first; from = omega arith; to = omega arith; there = here }
  | inr none ↦
      (let r = in_turn older newer v at count (suc first) (omega (arith, times-append at (turn_at older newer v first) (turns_from older newer v count (suc first)))) in
      record { number = r.number; from = omega (arith, r.from); to = omega (arith, r.to); there = r.there })
]

-- behind a number there stands the same whether or not another number stands in front
after_past : (at x : ℕ) (xs : List ℕ) → (x ≡ at → ⊥) → after_in at (x ∷ xs) ≡ after_in at xs
after_past at x xs h = cond-false _ _ _ (ne_eqb x at h)

-- where a number isn't in the first list, what stands behind it is that of the second list
pub after_in_none : (at : ℕ) (xs ys : List ℕ) → times at xs ≡ 0 → after_in at (xs ++ ys) ≡ after_in at ys
after_in_none at [] ys h = refl
after_in_none at (x ∷ xs) ys h = elim (cases_eq x at) [
  | inl here ↦ absurd (omega (arith, ap (λ n. times at (n ∷ xs)) here ∙ times_here at xs))
  | inr other ↦ after_past at x (xs ++ ys) other ∙ after_in_none at xs ys (omega (arith, times_past at x xs other))
]

-- where a number is in the first list, what stands behind it goes on with the whole second list
pub after_in_some : (at : ℕ) (xs ys : List ℕ) → 0 < times at xs → after_in at (xs ++ ys) ≡ after_in at xs ++ ys
after_in_some at [] ys h = absurd (omega arith)
after_in_some at (x ∷ xs) ys h = elim (cases_eq x at) [
  | inl here ↦ cond-true _ _ _ (eq-eqb x at here) ∙ ap (λ r. r ++ ys) (sym (cond-true _ xs (after_in at xs) (eq-eqb x at here)))
  | inr other ↦ after_past at x (xs ++ ys) other ∙ after_in_some at xs ys (omega (arith, times_past at x xs other)) ∙ ap (λ r. r ++ ys) (sym (after_past at x xs other))
]

-- behind a number there stands the rest if it is the first, and else what stands behind it in the rest
pub after_step : (at x : ℕ) (row rest : List ℕ) → row ≡ x ∷ rest → ((x ≡ at → after_in at row ≡ rest) × ((x ≡ at → ⊥) → after_in at row ≡ after_in at rest))
after_step at x row rest is = (λ here. ap (after_in at) is ∙ cond-true _ _ _ (eq-eqb x at here), λ other. ap (after_in at) is ∙ after_past at x rest other)

-- a number in the bucket of one of the turns is among what the turns give
some_in : (older newer : List (List ℕ)) (v at n count first : ℕ) → first ≤ n → n < first + count → 0 < times at (turn_at older newer v n) → 0 < times at (turns_from older newer v count first)
unfolding turns_from
some_in older newer v at n zero first from to here = absurd (omega arith)
some_in older newer v at n (suc count) first from to here = elim (cases_eq first n) [
  | inl same ↦ omega (arith, times-append at (turn_at older newer v first) (turns_from older newer v count (suc first)), ap (λ m. times at (turn_at older newer v m)) same)
  | inr later' ↦ omega
      (arith, times-append at (turn_at older newer v first) (turns_from older newer v count (suc first)), some_in older newer v at n count (suc first) (omega arith) (omega arith) here)
]

-- the turns behind the one that gives a number
pub after_turns : (older newer : List (List ℕ)) (v at n count first : ℕ) → first ≤ n → n < first + count → 0 < times at (turn_at older newer v n)
    → times at (turns_from older newer v count first) ≤ 1 → after_in at (turns_from older newer v count first) ≡ after_in at (turn_at older newer v n)
    ++ turns_from older newer v (first + count - (n + 1)) (n + 1)
unfolding turns_from
after_turns older newer v at n zero first from to here few = absurd (omega arith)
after_turns older newer v at n (suc count) first from to here few = elim (cases_eq first n) [
  | inl same ↦
      (let one : first + suc count - (n + 1) ≡ count = omega arith in
      let next : suc first ≡ n + 1 = omega arith in
      ap (λ m. after_in at (turn_at older newer v m ++ turns_from older newer v count (suc first))) same
      ∙ after_in_some at (turn_at older newer v n) (turns_from older newer v count (suc first)) here
      ∙ (λ i. after_in at (turn_at older newer v n) ++ turns_from older newer v (sym one i) (next i)))
  | inr later' ↦
      (let split : times at (turn_at older newer v first ++ turns_from older newer v count (suc first)) ≡ times at (turn_at older newer v first) + times at
      (turns_from older newer v count (suc first)) = times-append at (turn_at older newer v first) (turns_from older newer v count (suc first)) in
      let later_some : 0 < times at (turns_from older newer v count (suc first)) = some_in older newer v at n count (suc first) (omega arith) (omega arith) here in
      let size : first + suc count - (n + 1) ≡ suc first + count - (n + 1) = omega arith in
      after_in_none at (turn_at older newer v first) (turns_from older newer v count (suc first)) (omega arith)
      ∙ after_turns older newer v at n count (suc first) (omega arith) (omega arith) here (omega arith)
      ∙ ap (λ c. after_in at (turn_at older newer v n) ++ turns_from older newer v c (n + 1)) (sym size))
]

module _ {V : Type 0} (items : List (Option (Element V))) (older newer : List (List ℕ)) (v : ℕ) (s : Stand items older newer) where
  -- the turn that gives an element, where it isn't the first: told by the place of its hash
  pub record IsTold (at : ℕ) : Type 0 where
    pub number : ℕ
    pub positive : 0 < number
    pub within : number < turns_of older newer v
    pub there : 0 < times at (turn_at older newer v number)
    pub told : (e : Element V) → at_item items at ≡ Some e → number ≡ 1 +
        (place e.hash / 2 ^ (64 - bits_of (length (larger_of older newer))) - first_block (bits_of (length (larger_of older newer))) v)
    pub from : (e : Element V) → at_item items at ≡ Some e → first_block (bits_of (length (larger_of older newer))) v ≤ place e.hash / 2 ^ (64 - bits_of (length (larger_of older newer)))
    pub is_there : IsSome (at_item items at)

  -- the larger table names only elements, each in the bucket of its hash
  names_larger : Names items (larger_of older newer)
  names_larger = go (nat_lt 0 (length newer) && nat_lt (length newer) (length older)) refl
    where
      go : (t : Bool) → (nat_lt 0 (length newer) && nat_lt (length newer) (length older)) ≡ t → Names items (larger_of older newer)
      go true h = subst (Names items) (sym (cond-true _ older newer h)) s.of_older
      go false h = subst (Names items) (sym (cond-false _ older newer h)) s.of_newer

  -- an element that a move gives, but not in its first turn, is given by the turn that its hash tells
  pub told_turn : (at : ℕ) → 0 < times at (turns_from older newer v (turns_of older newer v) 0) → (0 < times at (turn_at older newer v 0) → ⊥) → IsTold at
  told_turn at there other =
      let t = in_turn older newer v at (turns_of older newer v) 0 there in
      let pos : 0 < t.number = elim (cases_lt 0 t.number)
      [ inl p ↦ p | inr z ↦ (let first : t.number ≡ 0 = omega arith in absurd (other (subst (λ n. 0 < times at (turn_at older newer v n)) first t.there))) ] in
      let within : t.number < turns_of older newer v = omega (arith, t.to) in
      let l = later items older newer v s t.number within pos in
      let block : first_block (bits_of (length (larger_of older newer))) v + (t.number - 1) < 2 ^ bits_of (length (larger_of older newer)) =
      subst (λ b. first_block b v + (t.number - 1) < 2 ^ b) (sym l.is) l.block in
      let few : bits_of (length (larger_of older newer)) < 64 = omega (arith, l.is, l.few) in
      let power : length (larger_of older newer) ≡ 2 ^ bits_of (length (larger_of older newer)) = l.power ∙ ap (λ b. 2 ^ b) (sym l.is) in
      let row : 0 < times at
      (turn (larger_of older newer) (bits_of (length (larger_of older newer)))
      (reversed (bits_of (length (larger_of older newer))) (first_block (bits_of (length (larger_of older newer))) v + (t.number - 1)))) =
      subst (λ r. 0 < times at r) (turn_later older newer v t.number pos) t.there in
      let p = names_larger
      (reversed (bits_of (length (larger_of older newer))) (first_block (bits_of (length (larger_of older newer))) v + (t.number - 1)) % 2 ^ bits_of (length (larger_of older newer)))
      at row in
      let low : p.0.hash % 2 ^ bits_of (length (larger_of older newer)) ≡ reversed (bits_of (length (larger_of older newer)))
      (first_block (bits_of (length (larger_of older newer))) v + (t.number - 1)) % 2 ^ bits_of (length (larger_of older newer)) = ap (λ n. p.0.hash % n) (sym power) ∙ p.2 in
      let mine : reversed (bits_of (length (larger_of older newer))) p.0.hash ≡ first_block (bits_of (length (larger_of older newer))) v + (t.number - 1)
      = reversed_from_low (bits_of (length (larger_of older newer))) p.0.hash
      (reversed (bits_of (length (larger_of older newer))) (first_block (bits_of (length (larger_of older newer))) v + (t.number - 1))) low
      ∙ reversed_twice (bits_of (length (larger_of older newer))) (first_block (bits_of (length (larger_of older newer))) v + (t.number - 1)) ∙ mod-eq_of_lt block in
      let high : place p.0.hash / 2 ^ (64 - bits_of (length (larger_of older newer))) ≡ first_block (bits_of (length (larger_of older newer))) v + (t.number - 1) =
      place_high (bits_of (length (larger_of older newer))) p.0.hash few ∙ mine in
      record {
        number = t.number;
        positive = pos;
        within = within;
        there = t.there;
        told = λ e found.
            (let one : e ≡ p.0 = (let q : Some e ≡ Some p.0 = sym found ∙ p.1 in cc) in
            omega (arith, ap (λ (x : Element V). place x.hash / 2 ^ (64 - bits_of (length (larger_of older newer)))) one));
        from = λ e found.
            (let one : e ≡ p.0 = (let q : Some e ≡ Some p.0 = sym found ∙ p.1 in cc) in
            omega (arith, ap (λ (x : Element V). place x.hash / 2 ^ (64 - bits_of (length (larger_of older newer)))) one));
        is_there = ap is_some p.1;
      }

-- ---- what was found stays

-- a list extends itself
pub extends_same : (old new : List ℕ) → new ≡ old → Extends old new
extends_same old new same = record { more = []; is = same ∙ sym (append-nil old) }

-- an extension with more appended is an extension
pub extends_more : (old mid new more : List ℕ) → Extends old mid → new ≡ mid ++ more → Extends old new
extends_more old mid new more e is = record { more = e.more ++ more; is = is ∙ ap (λ r. r ++ more) e.is ∙ append_assoc old e.more more }

-- an extension of an extension is an extension
pub extends_on : (old mid new : List ℕ) → Extends old mid → Extends mid new → Extends old new
extends_on old mid new a b = extends_more old mid new b.more a b.is
