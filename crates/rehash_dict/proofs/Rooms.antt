-- Room for an element: the first table, or a rehash into a greater one.
use Rattle.std.proofs.Common.{◌≡◌, ◌<◌, ◌≤◌, ◌+◌, ◌*◌, ℕ, true, false, not, List, [], ◌∷◌, length, refl, ap, sym, ◌∙◌, arith, nat_lt}
use Rattle.std.specs.Prelude.{nat_le, ◌==◌}
use Rattle.std.proofs.lemmas.Bool.{cond-true, cond-false, eq-eqb, ne_eqb, and_from, and_left, and_right}
use Rattle.std.proofs.lemmas.Bool.Decides.{nat_tests}
use Rattle.rehash_dict.specs.Tables.{Tables, count, no_elements, is_rehashing, begun, with_room, least_power, rehashed, stepped, wants_shrink}

module _ {X : Type 0} where
  pub going_yes : (t : Tables X) → 0 < length t.newer → is_rehashing t ≡ true
  going_yes t h = grind (arith, nat_tests)

  pub going_no : (t : Tables X) → length t.newer ≤ 0 → is_rehashing t ≡ false
  going_no t h = grind (arith, nat_tests)

  pub no_rows : (rows : List (List X)) → length rows ≤ 0 → rows ≡ []
  no_rows [] h = refl
  no_rows (r ∷ rest) h = absurd (omega arith)

  pub rehashed_going : (hash : X → ℕ) (t : Tables X) → is_rehashing t ≡ true → rehashed hash t 1 ≡ stepped hash t
  unfolding rehashed
  rehashed_going hash t h = cond-true (is_rehashing t) (stepped hash t) t h

  pub rehashed_not : (hash : X → ℕ) (t : Tables X) → is_rehashing t ≡ false → rehashed hash t 1 ≡ t
  unfolding rehashed
  rehashed_not hash t h = cond-false (is_rehashing t) (stepped hash t) t h

  -- a table that is full
  pub room_full : (t : Tables X) → is_rehashing t ≡ false → 0 < length t.older → length t.older ≤ count t.older → with_room t ≡ begun t (least_power (count t.older + 1))
  room_full t still some full =
      let not_none : (length t.older == 0) ≡ false = ne_eqb (length t.older) 0 (λ h. omega arith) in
      let is_full : nat_le (length t.older) (count t.older) ≡ true = grind (arith, nat_tests) in
      cond-false (is_rehashing t) _ _ still ∙ cond-false (length t.older == 0) _ _ not_none ∙ cond-true (nat_le (length t.older) (count t.older)) _ _ is_full

  -- while a rehash goes on, there is room
  pub room_going : (t : Tables X) → 0 < length t.newer → with_room t ≡ t
  room_going t going = cond-true (is_rehashing t) _ _ (going_yes t going)

  -- so is there where the elements are fewer than the buckets
  pub room_less : (t : Tables X) → length t.newer ≤ 0 → count t.older < length t.older → with_room t ≡ t
  room_less t still few =
      let not_none : (length t.older == 0) ≡ false = ne_eqb (length t.older) 0 (λ h. omega arith) in
      let not_full : nat_le (length t.older) (count t.older) ≡ false = grind (arith, nat_tests) in
      cond-false (is_rehashing t) _ _ (going_no t still) ∙ cond-false (length t.older == 0) _ _ not_none ∙ cond-false (nat_le (length t.older) (count t.older)) _ _ not_full

  -- the first table
  pub room_first : (t new : Tables X) (size : ℕ) → length t.newer ≤ 0 → length t.older ≡ 0 → t.position ≡ 0 → new.older ≡ no_elements size → size ≡ 4 → new.newer ≡ [] → new.position ≡ t.position
      → new ≡ with_room t
  room_first t new size still none start older four newer position =
      let is : List (List X) → List (List X) → ℕ → Tables X = λ a b n. record { older = a; newer = b; position = n } in
      ap (λ rows. is rows new.newer new.position) (older ∙ ap no_elements four) ∙ ap (λ rows. is (no_elements 4) rows new.position) newer ∙ ap (is (no_elements 4) []) (position ∙ start)
      ∙ sym (cond-false (is_rehashing t) _ _ (going_no t still) ∙ cond-true (length t.older == 0) _ _ (eq-eqb (length t.older) 0 none))

  -- a table with elements has buckets
  pub some_rows : (rows : List (List X)) → 0 < count rows → 0 < length rows
  some_rows [] h = absurd (omega arith)
  some_rows (r ∷ rest) h = omega arith

  -- when a call of `shrink` begins something
  pub wants_yes : (t : Tables X) → length t.newer ≤ 0 → 4 < length t.older → count t.older * 10 < length t.older → wants_shrink t ≡ true
  wants_yes t still many few =
      let a : nat_lt 4 (length t.older) ≡ true = grind (arith, nat_tests) in
      let b : nat_lt (count t.older * 10) (length t.older) ≡ true = grind (arith, nat_tests) in
      and_from _ _ (and_from _ _ (ap not (going_no t still)) a) b

  pub wants_going : (t : Tables X) → 0 < length t.newer → wants_shrink t ≡ false
  wants_going t going = and_left _ _ (and_left _ _ (ap not (going_yes t going)))

  pub wants_small : (t : Tables X) → length t.older ≤ 4 → wants_shrink t ≡ false
  wants_small t few = (let a : nat_lt 4 (length t.older) ≡ false = grind (arith, nat_tests) in and_left _ _ (and_right _ _ a))

  pub wants_filled : (t : Tables X) → length t.older ≤ count t.older * 10 → wants_shrink t ≡ false
  wants_filled t full = (let a : nat_lt (count t.older * 10) (length t.older) ≡ false = grind (arith, nat_tests) in and_right _ _ a)
