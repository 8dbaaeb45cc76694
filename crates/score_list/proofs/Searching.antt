-- The way down to the first element that a probe doesn't stand above.
use Rattle.std.proofs.Common.{◌≡◌, ℕ, zero, suc, ◌+◌, ◌-◌, ◌<◌, ◌≤◌, Bool, true, false, List, [], ◌∷◌, ◌++◌, length, take, drop, get_or, map, count_by, cond, refl, sym, append_assoc}
use Rattle.std.proofs.Common.{drop_of_length-le, ap, ◌∙◌, subst, length-take-le, drop-cons, ltb-true, ltb-false, nat_lt, arith, inl, inr}
use Rattle.std.specs.Prelude.{slice_index_or, slice_set}
use Rattle.std.proofs.lemmas.List.{take-append-drop, take-map, drop-map, length-set, get_or-set_other, get_or-set_same}
use Rattle.std.proofs.lemmas.List.Sums.{sum_by-cons}
use Rattle.score_list.specs.declared.towers.Towers.{Towers}
use Rattle.score_list.specs.declared.towers.Place.{Place}
use Rattle.score_list.specs.Rows.{IsRow, Reaches, Stands, AllTall}
use Rattle.score_list.specs.Rows.Stands.{at_head, at_tower}
use Rattle.score_list.specs.Linked.{Element, next_at, span_at, height_at, tall, order, IsLevel, IsLinked, StandsAt, Arrives, no_place, IsPath}
use Rattle.score_list.specs.Sorted.{AllAre, IsParted, EachIs}
use Rattle.score_list.proofs.Moved.{decide, never, ahead, reach_stands, stands_below, all_next}
use Rattle.score_list.proofs.Threading.{lower, row_reached}
use Rattle.score_list.proofs.Places.{row_at}

module _ {X : Type 0} (f : X → Bool) where
  pub count_yes : (x : X) (xs : List X) → f x ≡ true → count_by f (x ∷ xs) ≡ suc (count_by f xs)
  count_yes x xs e =
      let F : Bool → ℕ = λ b. cond b 1 0 in
      let w : F (f x) ≡ 1 = ap F e in
      sum_by-cons (λ y. cond (f y) 1 0) x xs ∙ omega (arith, w)

  pub count_no : (x : X) (xs : List X) → f x ≡ false → count_by f (x ∷ xs) ≡ count_by f xs
  count_no x xs e =
      let F : Bool → ℕ = λ b. cond b 1 0 in
      let w : F (f x) ≡ 0 = ap F e in
      sum_by-cons (λ y. cond (f y) 1 0) x xs ∙ omega (arith, w)

module _ (f : Element → Bool) where
  pub count_none : (xs : List Element) → AllAre f false xs → count_by f xs ≡ 0
  count_none [] a = refl
  count_none (x ∷ xs) a = count_no f x xs a.0 ∙ count_none xs a.1

  pub count_out : (x : Element) (xs : List Element) → f x ≡ false → AllAre f false xs → count_by f (x ∷ xs) ≡ 0
  count_out x xs e a = count_none (x ∷ xs) (e, a)

  pub front_passes : (xs : List Element) → IsParted f xs → AllAre f true (take (count_by f xs) xs)
  front_passes [] p = tt
  front_passes (x ∷ xs) (inl p) = subst (λ n. AllAre f true (take n (x ∷ xs))) (sym (count_yes f x xs p.0)) (p.0, front_passes xs p.1)
  front_passes (x ∷ xs) (inr p) = subst (λ n. AllAre f true (take n (x ∷ xs))) (sym (count_out x xs p.0 p.1)) tt

  pub back_fails : (xs : List Element) → IsParted f xs → AllAre f false (drop (count_by f xs) xs)
  back_fails [] p = tt
  back_fails (x ∷ xs) (inl p) = subst (λ n. AllAre f false (drop n (x ∷ xs))) (sym (count_yes f x xs p.0)) (back_fails xs p.1)
  back_fails (x ∷ xs) (inr p) = subst (λ n. AllAre f false (drop n (x ∷ xs))) (sym (count_out x xs p.0 p.1)) (p.0, p.1)

  module _ (at : ℕ → Element) where
    -- what holds of the elements holds of the keys
    abbrev pub KeysAre : Bool → List ℕ → Type 0
    KeysAre b [] = Unit {0}
    KeysAre b (k ∷ ks) = (f (at k) ≡ b) × KeysAre b ks

    keys_are : (b : Bool) (ks : List ℕ) → AllAre f b (map at ks) → KeysAre b ks
    keys_are b [] a = tt
    keys_are b (k ∷ ks) a = (a.0, keys_are b ks a.1)

    pub keys_front : (ks : List ℕ) → IsParted f (map at ks) → KeysAre true (take (count_by f (map at ks)) ks)
    keys_front ks p = keys_are true (take (count_by f (map at ks)) ks) (subst (AllAre f true) (take-map at (count_by f (map at ks)) ks) (front_passes (map at ks) p))

    pub keys_back : (ks : List ℕ) → IsParted f (map at ks) → KeysAre false (drop (count_by f (map at ks)) ks)
    keys_back ks p = keys_are false (drop (count_by f (map at ks)) ks) (subst (AllAre f false) (drop-map at (count_by f (map at ks)) ks) (back_fails (map at ks) p))

    keys_behind : (b : Bool) (before : List ℕ) (k : ℕ) (behind : List ℕ) → KeysAre b (before ++ k ∷ behind) → (f (at k) ≡ b) × KeysAre b behind
    keys_behind b [] k behind a = a
    keys_behind b (j ∷ js) k behind a = keys_behind b js k behind a.1

    stands_keys : (tall : ℕ → Bool) (front : List ℕ) (o : ℕ) (rest : List ℕ) → Stands tall front o rest → KeysAre true front → KeysAre true rest
    stands_keys tall front o rest (at_head is_o is_rest) a = subst (KeysAre true) (sym is_rest) a
    stands_keys tall front o rest (at_tower before k t is_o is) a = (keys_behind true before k rest (subst (KeysAre true) is a)).1

    module _ (tall : ℕ → Bool) (next span : ℕ → ℕ) where
      found_in : (o d : ℕ) (ks : List ℕ) → IsRow tall next span o d ks → KeysAre false ks → (k : ℕ) → next o ≡ suc k → f (at k) ≡ false
      found_in o d [] r a k e = absurd (omega arith)
      found_in o d (j ∷ ks) (inl r) a k e = (let same : k ≡ j = omega arith in ap (λ n. f (at n)) same ∙ a.0)
      found_in o d (j ∷ ks) (inr r) a k e = found_in o (suc d) ks r.1 a.1 k e

      found_behind : (rest back : List ℕ) (o d : ℕ) → IsRow tall next span o d (rest ++ back) → d + length rest < span o → KeysAre false back → (k : ℕ) → next o ≡ suc k → f (at k) ≡ false
      found_behind [] back o d r lt a k e = found_in o d back r a k e
      found_behind (j ∷ ks) back o d (inl r) lt a k e = absurd (omega arith)
      found_behind (j ∷ ks) back o d (inr r) lt a k e = found_behind ks back o (suc d) r.1 (omega arith) a k e

      -- in front of the rank, an owner whose next element fails, or that has none, is the last one
      pub fails_at_last : (ks : List ℕ) (rank o after : ℕ) (rest : List ℕ) → KeysAre true (take rank ks) → Stands tall (take rank ks) o rest → after + length rest ≡ rank
          → IsRow tall next span 0 0 ks → ((k : ℕ) → next o ≡ suc k → f (at k) ≡ false) → rank < span o + after
      fails_at_last ks rank o after rest front s is r fails =
          elim (decide (nat_lt rank (span o + after))) [
            | inl e ↦ ltb-true rank (span o + after) e
            | inr e ↦ (let le : span o + after ≤ rank = ltb-false rank (span o + after) e in
                let a = ahead tall next span rest (drop rank ks) o 0 (row_at tall next span ks rank o rest s r) (omega arith) in
                let above = (keys_behind true a.before a.k a.behind (subst (KeysAre true) a.is (stands_keys tall (take rank ks) o rest s front))).0 in
                never (f (at a.k)) above (fails a.k a.next_is))
          ]

      -- where the next element passes, it stands in front of the rank too
      pub passes_before : (ks : List ℕ) (rank o after : ℕ) (rest : List ℕ) → KeysAre false (drop rank ks) → Stands tall (take rank ks) o rest → after + length rest ≡ rank
          → IsRow tall next span 0 0 ks → (k : ℕ) → next o ≡ suc k → f (at k) ≡ true → span o + after ≤ rank
      passes_before ks rank o after rest back s is r k e above =
          elim (decide (nat_lt rank (span o + after))) [
            | inl h ↦
                (let lt : rank < span o + after = ltb-true rank (span o + after) h in
                never (f (at k)) above (found_behind rest (drop rank ks) o 0 (row_at tall next span ks rank o rest s r) (omega arith) back k e))
            | inr h ↦ ltb-false rank (span o + after) h
          ]

module _ (P : Element → Type 0) (at : ℕ → Element) where
  abbrev pub KeysEach : List ℕ → Type 0
  KeysEach [] = Unit {0}
  KeysEach (k ∷ ks) = P (at k) × KeysEach ks

  keys_each : (ks : List ℕ) → EachIs P (map at ks) → KeysEach ks
  keys_each [] a = tt
  keys_each (k ∷ ks) a = (a.0, keys_each ks a.1)

  each_behind : (before : List ℕ) (k : ℕ) (behind : List ℕ) → KeysEach (before ++ k ∷ behind) → KeysEach behind
  each_behind [] k behind a = a.1
  each_behind (j ∷ js) k behind a = each_behind js k behind a.1

  stands_each : (tall : ℕ → Bool) (front back : List ℕ) (o : ℕ) (rest : List ℕ) → Stands tall front o rest → KeysEach (front ++ back) → KeysEach (rest ++ back)
  stands_each tall front back o rest (at_head is_o is_rest) a = subst (λ xs. KeysEach (xs ++ back)) (sym is_rest) a
  stands_each tall front back o rest (at_tower before k t is_o is) a = each_behind before k (rest ++ back) (subst KeysEach (ap (λ xs. xs ++ back) is ∙ append_assoc before (k ∷ rest) back) a)

  each_found : (tall : ℕ → Bool) (next span : ℕ → ℕ) (o d : ℕ) (ks : List ℕ) → IsRow tall next span o d ks → KeysEach ks → (k : ℕ) → next o ≡ suc k → P (at k)
  each_found tall next span o d [] r a k e = absurd (omega arith)
  each_found tall next span o d (j ∷ ks) (inl r) a k e = (let same : j ≡ k = omega arith in subst (λ n. P (at n)) same a.0)
  each_found tall next span o d (j ∷ ks) (inr r) a k e = each_found tall next span o (suc d) ks r.1 a.1 k e

  -- what holds of each element holds of the next one of an owner
  pub each_next : (tall : ℕ → Bool) (next span : ℕ → ℕ) (ks : List ℕ) (rank o : ℕ) (rest : List ℕ) → EachIs P (map at ks) → Stands tall (take rank ks) o rest → IsRow tall next span 0 0 ks
      → (k : ℕ) → next o ≡ suc k → P (at k)
  each_next tall next span ks rank o rest each s r k e =
      each_found tall next span o 0 (rest ++ drop rank ks) (row_at tall next span ks rank o rest s r)
      (stands_each tall (take rank ks) (drop rank ks) o rest s (subst KeysEach (sym (take-append-drop rank ks)) (keys_each ks each))) k e

-- an owner that stands somewhere on the way down, and is the last one of its level unless the way has just begun
pub record Descent (t : Towers) (rank level owner after : ℕ) : Type 0 where
  pub bound : level ≤ 16
  pub stands : StandsAt t level rank owner after
  pub came : level < 16 → Arrives t level rank owner after

pub descent_begins : (t : Towers) (rank : ℕ) → rank ≤ length (order t) → Descent t rank 16 0 0
descent_begins t rank le = record { bound = omega arith; stands = (take rank (order t), at_head refl refl, omega (arith, length-take-le rank (order t) le)); came = λ lt. absurd (omega arith) }

pub stands_lower : (t : Towers) (rank level owner after : ℕ) → 0 < level → StandsAt t level rank owner after → StandsAt t (level - 1) rank owner after
stands_lower t rank level owner after lt s =
    (s.0, stands_below (tall t level) (tall t (level - 1)) (λ k h. lower (height_at t k) level (level - 1) (omega arith) h) (take rank (order t)) owner s.0 s.1, s.2)

pub descends : (t : Towers) (rank level owner after : ℕ) → level < 16 → Arrives t level rank owner after → Descent t rank level owner after
descends t rank level owner after lt a =
    let s = reach_stands (tall t level) (take rank (order t)) owner a.0 a.1 in
    record { bound = omega arith; stands = (s.0, s.1, omega (arith, s.2, a.2)); came = λ h. a }

-- the last owners of the levels from one on
pub record Way (t : Towers) (rank level : ℕ) (path : List Place) : Type 0 where
  pub long : length path ≡ 16
  pub came : (j : ℕ) → level ≤ j → j < 16 → Arrives t j rank (slice_index_or path j no_place).owner (slice_index_or path j no_place).rank

-- with that of one level more
pub way_on : (t : Towers) (rank level : ℕ) (path : List Place) (place : Place) → 0 < level → level - 1 < 16 → Arrives t (level - 1) rank place.owner place.rank → Way t rank level path
    → Way t rank (level - 1) (slice_set path (level - 1) place)
way_on t rank level path place lt low a w = record {
  long = length-set path (level - 1) place ∙ w.long;
  came = λ j le less. elim (decide (nat_lt (level - 1) j)) [
    | inl h ↦ (let more : level - 1 < j = ltb-true (level - 1) j h in
        let same : slice_index_or (slice_set path (level - 1) place) j no_place ≡ slice_index_or path j no_place =
        get_or-set_other path (level - 1) j place no_place (λ e. absurd (omega (arith, e, more))) in
        subst (λ (p : Place). Arrives t j rank p.owner p.rank) (sym same) (w.came j (omega (arith, more)) less))
    | inr h ↦ (let is : level - 1 ≡ j = omega (arith, le, ltb-false (level - 1) j h) in
        let same : slice_index_or (slice_set path (level - 1) place) (level - 1) no_place ≡ place = get_or-set_same path (level - 1) place no_place (omega (arith, low, w.long)) in
        subst (λ n. Arrives t n rank (slice_index_or (slice_set path (level - 1) place) n no_place).owner (slice_index_or (slice_set path (level - 1) place) n no_place).rank) is
        (subst (λ (p : Place). Arrives t (level - 1) rank p.owner p.rank) (sym same) a))
  ];
}

-- the last owners of all levels
pub way_path : (t : Towers) (rank level : ℕ) (path : List Place) → level ≤ 0 → Way t rank level path → IsPath t rank path
way_path t rank level path le w = λ j lt. w.came j (omega (arith, le)) lt

tall_front : (tall : ℕ → Bool) (rank : ℕ) (ks : List ℕ) → AllTall tall ks → AllTall tall (take rank ks)
tall_front tall zero ks a = tt
tall_front tall (suc n) [] a = tt
tall_front tall (suc n) (k ∷ ks) a = (a.0, tall_front tall n ks a.1)

-- where all are of the level, the last owner is the last element
none_left : (tall : ℕ → Bool) (front : List ℕ) (o last left : ℕ) → AllTall tall front → Reaches tall front o 0 last left → left ≡ 0
none_left tall [] o last left a r = r.1
none_left tall (k ∷ ks) o last left a (inl r) = none_left tall ks (suc k) last left a.1 r.1
none_left tall (k ∷ ks) o last left a (inr r) = never (tall k) a.0 r.0

tall_back : (tall : ℕ → Bool) (rank : ℕ) (ks : List ℕ) → AllTall tall ks → AllTall tall (drop rank ks)
tall_back tall zero ks a = a
tall_back tall (suc n) [] a = tt
tall_back tall (suc n) (k ∷ ks) a = tall_back tall n ks a.1

module _ (t : Towers) (linked : IsLinked t) (rank owner after : ℕ) (a : Arrives t 0 rank owner after) where
  left_none : a.0 ≡ 0
  left_none = none_left (tall t 0) (take rank (order t)) 0 owner a.0 (tall_front (tall t 0) rank (order t) linked.based) a.1

  pub lowest_rank : after ≡ rank
  lowest_rank = omega (arith, a.2, left_none)

  row_down : IsRow (tall t 0) (next_at t 0) (span_at t 0) owner 0 (drop rank (order t))
  row_down = subst (λ n. IsRow (tall t 0) (next_at t 0) (span_at t 0) owner n (drop rank (order t))) left_none
      (row_reached (tall t 0) (next_at t 0) (span_at t 0) (take rank (order t)) (drop rank (order t)) 0 0 owner a.0 a.1
      (subst (IsLevel t 0) (sym (take-append-drop rank (order t))) (linked.rows 0 (omega arith))))

  pub lowest_next : rank < length (order t) → next_at t 0 owner ≡ suc (get_or (order t) rank 0)
  lowest_next lt =
      let is = drop-cons (order t) rank 0 lt in
      all_next (tall t 0) (next_at t 0) (span_at t 0) owner (get_or (order t) rank 0) (drop (suc rank) (order t))
      (subst (AllTall (tall t 0)) is (tall_back (tall t 0) rank (order t) linked.based))
      (subst (IsRow (tall t 0) (next_at t 0) (span_at t 0) owner 0) is row_down)

  pub lowest_end : rank ≡ length (order t) → next_at t 0 owner ≡ 0
  lowest_end e = (subst (IsRow (tall t 0) (next_at t 0) (span_at t 0) owner 0) (drop_of_length-le (order t) (let le : length (order t) ≤ rank = omega arith in le)) row_down).0

pub descended : (t : Towers) (rank level owner after : ℕ) → Descent t rank level owner after → level ≤ 0 → Arrives t 0 rank owner after
descended t rank level owner after d le = (let is : level ≡ 0 = omega arith in subst (λ n. Arrives t n rank owner after) is (d.came (omega arith)))

pub length_of_map : (at : ℕ → Element) (ks : List ℕ) → length (map at ks) ≡ length ks
length_of_map at [] = refl
length_of_map at (k ∷ ks) = ap suc (length_of_map at ks)
