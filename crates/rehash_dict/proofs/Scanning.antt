-- The scan calls of a dictionary, from the turns of its chains.
use Rattle.std.proofs.Common.{◌≡◌, inl, inr, ℕ, ◌+◌, ◌-◌, ◌^◌, ◌≤◌, ◌<◌, suc, bit_and, bit_xor, List, [], ◌∷◌, ◌++◌, length, Option, Some, None, refl, sym, ap, ◌∙◌, subst, arith}
use Rattle.std.proofs.lemmas.Bool.{cases_lt, cond-true, cond-false, eq-eqb, ne_eqb}
use Rattle.rev_cursor.specs.Place.{next_of}
use Rattle.rev_cursor.specs.Span.{times}
use Rattle.rehash_dict.specs.Table.{Element, Table, Chaining, item}
use Rattle.rehash_dict.specs.Placed.{Stand, IsPlaced}
use Rattle.rehash_dict.specs.Steps.{table_of}
use Rattle.rehash_dict.specs.Scan.{bits_of, smaller_of, larger_of, turn, walk, walked_over, scanned, turns_of, turn_at, turns_from, first_of, after_in}
use Rattle.rehash_dict.specs.ScanPlaces.{place_in}
use Rattle.rehash_dict.proofs.Scans.{width_of, ordered, is_move, no_move, move_spans}
use Rattle.rehash_dict.proofs.Turns.{is_lt, not_lt, turns_none, after_turns}

first_some : (xs ys : List ℕ) (x : ℕ) → Some x ≡ first_of xs → Some x ≡ first_of (xs ++ ys)
first_some [] ys x h = cc
first_some (z ∷ zs) ys x h = h

first_none : (xs ys : List ℕ) → None ≡ first_of xs → first_of (xs ++ ys) ≡ first_of ys
first_none [] ys h = refl
first_none (z ∷ zs) ys h = cc

-- a turn of the larger table's walk, the last one or not
module _ (rows : List (List ℕ)) (small large fuel v : ℕ) where
  pub walk_last : bit_and (next_of v large) (bit_xor (2 ^ small - 1) (2 ^ large - 1)) ≡ 0 → walk rows small large (suc fuel) v ≡ (turn rows large v, next_of v large)
  unfolding walk
  walk_last h = cond-true _ _ _ (eq-eqb _ 0 h)

  pub walk_on : (bit_and (next_of v large) (bit_xor (2 ^ small - 1) (2 ^ large - 1)) ≡ 0 → ⊥)
      → walk rows small large (suc fuel) v ≡ (turn rows large v ++ (walk rows small large fuel (next_of v large)).0, (walk rows small large fuel (next_of v large)).1)
  unfolding walk
  walk_on h = cond-false _ _ _ (ne_eqb _ 0 h)

  pub walk_none : walk rows small large 0 v ≡ ([], v)
  unfolding walk
  walk_none = refl

-- what the code makes of a turn: the bucket of a cursor, the next cursor, and the test of the bits between the masks
module _ {V : Type 0} (items : List (Option (Element V))) (older newer : List (List ℕ)) (s : Stand items older newer) (some : 0 < length older) (two : 0 < length newer)
    (rs rl : List (List ℕ)) (is_s : rs ≡ smaller_of older newer) (is_l : rl ≡ larger_of older newer) (small large v next : ℕ) (size_s : small ≡ length rs) (size_l : large ≡ length rl)
    (leads : next ≡ next_of v (bits_of (length rl))) where
  abbrev pub rest : ℕ → ℕ → List ℕ × ℕ
  rest fuel at = walk (larger_of older newer) (bits_of (length (smaller_of older newer))) (bits_of (length (larger_of older newer))) fuel at

  leads_on : next ≡ next_of v (bits_of (length (larger_of older newer)))
  leads_on = leads ∙ ap (λ r. next_of v (bits_of (length r))) is_l

  test : bit_and next (bit_xor (small - 1) (large - 1)) ≡ bit_and (next_of v (bits_of (length (larger_of older newer))))
      (bit_xor (2 ^ bits_of (length (smaller_of older newer)) - 1) (2 ^ bits_of (length (larger_of older newer)) - 1))
  test =
      let o = ordered items older newer s some two in
      let low : small ≡ 2 ^ bits_of (length (smaller_of older newer)) = size_s ∙ ap length is_s ∙ (width_of (length (smaller_of older newer)) o.small_size o.some).power in
      let high : large ≡ 2 ^ bits_of (length (larger_of older newer)) = size_l ∙ ap length is_l ∙ (width_of (length (larger_of older newer)) o.large_size (omega (arith, o.some, o.order))).power in
      (λ i. bit_and (leads_on i) (bit_xor (low i - 1) (high i - 1)))

  pub turn_last : (fuel : ℕ) → 0 < fuel → bit_and next (bit_xor (small - 1) (large - 1)) ≡ 0 → rest fuel v ≡ (turn rl (bits_of (length rl)) v, next)
  turn_last fuel pos h =
      let one : fuel ≡ suc (fuel - 1) = omega arith in
      ap (λ f. rest f v) one ∙ walk_last _ _ _ (fuel - 1) v (sym test ∙ h) ∙ (λ i. (turn (sym is_l i) (bits_of (length (sym is_l i))) v, sym leads_on i))

  pub turn_more : (fuel less : ℕ) → 0 < fuel → less ≡ fuel - 1 → (bit_and next (bit_xor (small - 1) (large - 1)) ≡ 0 → ⊥)
      → rest fuel v ≡ (turn rl (bits_of (length rl)) v ++ (rest less next).0, (rest less next).1)
  turn_more fuel less pos is h =
      let one : fuel ≡ suc less = omega arith in
      ap (λ f. rest f v) one ∙ walk_on _ _ _ less v (λ e. h (test ∙ e)) ∙ (λ i. (turn (sym is_l i) (bits_of (length (sym is_l i))) v ++ (rest less (sym leads_on i)).0, (rest less (sym leads_on i)).1))

-- a move over one table, and over two
pub scanned_one : (older newer : List (List ℕ)) (v : ℕ) → 0 < length older → length newer ≤ 0 → scanned older newer v ≡ (turn older (bits_of (length older)) v, next_of v (bits_of (length older)))
unfolding scanned
scanned_one older newer v some one = cond-false _ _ _ (ne_eqb (length older) 0 (λ h. omega arith)) ∙ cond-false _ _ _ (not_lt (length newer) one)

pub scanned_two : (older newer : List (List ℕ)) (v : ℕ) → 0 < length older → 0 < length newer
    → scanned older newer v ≡ (turn (smaller_of older newer) (bits_of (length (smaller_of older newer))) v ++ (walked_over older newer v).0, (walked_over older newer v).1)
unfolding scanned
scanned_two older newer v some two = cond-false _ _ _ (ne_eqb (length older) 0 (λ h. omega arith)) ∙ cond-true _ _ _ (is_lt (length newer) two)

module _ {V : Type 0} (h : Chaining V) (position seed top : ℕ) (t : Table V) (v : ℕ) (value : table_of h position seed top ≡ t) (p : IsPlaced t) where
  pub placed_held : IsPlaced (table_of h position seed top)
  placed_held = subst IsPlaced (sym value) p

  pub stand_held : Stand h.items h.older h.newer
  stand_held = placed_held.kept.stand

  all_turns : (scanned h.older h.newer v).0 ≡ turns_from h.older h.newer v (turns_of h.older h.newer v) 0
  unfolding turns_from
  all_turns = elim (cases_lt 0 (length h.older)) [
    | inl some ↦ (is_move h.items h.older h.newer v stand_held some).items
    | inr none ↦ ap (λ q. q.0) (no_move h.older h.newer v none) ∙ sym (ap (λ n. turns_from h.older h.newer v n 0) (turns_none h.older h.newer v none))
  ]

  pub whole_move : turns_from h.older h.newer v (turns_of h.older h.newer v) 0 ≡ (scanned t.older t.newer v).0
  whole_move = sym all_turns ∙ ap (λ x. (scanned x.older x.newer v).0) value

  once : (at : ℕ) → times at (turns_from h.older h.newer v (turns_of h.older h.newer v) 0) ≤ 1
  once at = subst (λ l. times at l ≤ 1) (sym whole_move) ((move_spans t (λ i. place_in (item t i)) v (record { placed = p; places = λ i. refl })).once at)

  -- what stands behind an item of a turn
  after_number : (at n : ℕ) → n < turns_of h.older h.newer v → 0 < times at (turn_at h.older h.newer v n)
      → after_in at (scanned t.older t.newer v).0 ≡ after_in at (turn_at h.older h.newer v n) ++ turns_from h.older h.newer v (turns_of h.older h.newer v - (n + 1)) (n + 1)
  after_number at n lt here =
      let size : 0 + turns_of h.older h.newer v - (n + 1) ≡ turns_of h.older h.newer v - (n + 1) = omega arith in
      ap (after_in at) (sym whole_move)
      ∙ after_turns h.older h.newer v at n (turns_of h.older h.newer v) 0 (omega arith) (omega arith) here (once at)
      ∙ ap (λ c. after_in at (turn_at h.older h.newer v n) ++ turns_from h.older h.newer v c (n + 1)) size

  pub after_found : (at n x : ℕ) (row : List ℕ) → n < turns_of h.older h.newer v → 0 < times at (turn_at h.older h.newer v n) → row ≡ turn_at h.older h.newer v n
      → Some x ≡ first_of (after_in at row) → Some x ≡ first_of (after_in at (scanned t.older t.newer v).0)
  after_found at n x row lt here is next = first_some _ _ x (next ∙ ap (λ r. first_of (after_in at r)) is) ∙ sym (ap first_of (after_number at n lt here))

  pub after_last : (at n : ℕ) (row : List ℕ) (o : Option ℕ) → n < turns_of h.older h.newer v → 0 < times at (turn_at h.older h.newer v n) → row ≡ turn_at h.older h.newer v n
      → None ≡ first_of (after_in at row) → o ≡ first_of (turns_from h.older h.newer v (turns_of h.older h.newer v - (n + 1)) (n + 1))
      → o ≡ first_of (after_in at (scanned t.older t.newer v).0)
  after_last at n row o lt here is none next = next ∙ sym (ap first_of (after_number at n lt here) ∙ first_none _ _ (none ∙ ap (λ r. first_of (after_in at r)) is))

  pub first_all : (o : Option ℕ) → o ≡ first_of (turns_from h.older h.newer v (turns_of h.older h.newer v - 0) 0) → o ≡ first_of (scanned t.older t.newer v).0
  first_all o is =
      let size : turns_of h.older h.newer v - 0 ≡ turns_of h.older h.newer v = omega arith in
      is ∙ ap (λ n. first_of (turns_from h.older h.newer v n 0)) size ∙ ap first_of whole_move

  pub end_none : length h.older ≤ 0 → 0 ≡ (scanned t.older t.newer v).1
  end_none none = sym (ap (λ q. q.1) (no_move h.older h.newer v none)) ∙ ap (λ x. (scanned x.older x.newer v).1) value

  pub end_some : (bits next : ℕ) → 0 < length h.older → bits ≡ bits_of (length (smaller_of h.older h.newer)) → next ≡ next_of v bits → next ≡ (scanned t.older t.newer v).1
  end_some bits next some is n = n ∙ ap (next_of v) is ∙ sym (is_move h.items h.older h.newer v stand_held some).next ∙ ap (λ x. (scanned x.older x.newer v).1) value
