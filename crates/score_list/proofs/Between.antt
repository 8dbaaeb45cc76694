-- An element whose new place among the others is the one that it has.
use Rattle.std.proofs.Common.{◌≡◌, ℕ, zero, suc, ◌+◌, ◌<◌, Bool, true, false, List, [], ◌∷◌, length, take, drop, get_or, count_by, refl, sym, ap, ◌∙◌, subst, arith, inl, inr}
use Rattle.std.specs.Prelude.{slice_set, IsTrue, not, ◌-◌}
use Rattle.std.proofs.lemmas.List.{get_or-map}
use Rattle.score_list.specs.declared.towers.Towers.{Towers}
use Rattle.score_list.specs.Rows.{Reaches, AllTall}
use Rattle.score_list.specs.Linked.{Element, no_element, element_at, tall, order, items, IsLinked, Arrives, with_at, without_at}
use Rattle.score_list.specs.Sorted.{AllAre, IsParted, EachIs}
use Rattle.score_list.proofs.Moved.{never}
use Rattle.score_list.proofs.Searching.{count_yes, count_none, length_of_map}

-- where all are of the level, the last owner in front of a rank is the tower there
last_is : (tall : ℕ → Bool) (ks : List ℕ) (n o d last left : ℕ) → AllTall tall ks → n < length ks → Reaches tall (take (suc n) ks) o d last left → last ≡ suc (get_or ks n 0)
last_is tall [] n o d last left all lt r = absurd (omega arith)
last_is tall (k ∷ ks) zero o d last left all lt (inl r) = r.1.0
last_is tall (k ∷ ks) zero o d last left all lt (inr r) = never (tall k) all.0 r.0
last_is tall (k ∷ ks) (suc n) o d last left all lt (inl r) = last_is tall ks n (suc k) 0 last left all.1 (omega (arith, lt)) r.1
last_is tall (k ∷ ks) (suc n) o d last left all lt (inr r) = never (tall k) all.0 r.0

-- the owner in front of a rank above 0 is the tower at the rank before
pub before_is : (t : Towers) (rank owner after : ℕ) → IsLinked t → rank < length (order t) → 0 < rank → Arrives t 0 rank owner after → owner ≡ suc (get_or (order t) (rank - 1) 0)
before_is t zero owner after linked lt some a = absurd (omega (arith, some))
before_is t (suc n) owner after linked lt some a =
    let one : suc n - 1 ≡ n = omega arith in
    subst (λ m. owner ≡ suc (get_or (order t) m 0)) (sym one) (last_is (tall t 0) (order t) n 0 0 owner a.0 linked.based (omega (arith, lt)) a.1)

-- the element of the tower at a rank
pub element_there : (t : Towers) (n : ℕ) → n < length (order t) → element_at t (get_or (order t) n 0) ≡ get_or (items t) n no_element
element_there t n lt = sym (get_or-map (element_at t) (order t) n 0 no_element lt)

module _ (P : Element → Type 0) where
  -- what holds of each but one holds of the one in front of it
  pub each_before : (xs : List Element) (n : ℕ) → n < length xs → EachIs P (without_at xs (suc n)) → P (get_or xs n no_element)
  each_before [] n lt e = absurd (omega arith)
  each_before (x ∷ xs) zero lt e = e.0
  each_before (x ∷ xs) (suc n) lt e = each_before xs n (omega (arith, lt)) e.1

  -- and of the one behind it
  pub each_after : (xs : List Element) (n : ℕ) → suc n < length xs → EachIs P (without_at xs n) → P (get_or xs (suc n) no_element)
  each_after [] n lt e = absurd (omega arith)
  each_after (x ∷ []) zero lt e = absurd (omega (arith, lt))
  each_after (x ∷ y ∷ xs) zero lt e = e.0
  each_after (x ∷ xs) (suc n) lt e = each_after xs n (omega (arith, lt)) e.1

module _ (f : Element → Bool) where
  -- what fails for all fails for each
  fails_at : (xs : List Element) (n : ℕ) → n < length xs → AllAre f false xs → f (get_or xs n no_element) ≡ false
  fails_at [] n lt a = absurd (omega arith)
  fails_at (x ∷ xs) zero lt a = a.0
  fails_at (x ∷ xs) (suc n) lt a = fails_at xs n (omega (arith, lt)) a.1

  fails_before : (xs : List Element) (n : ℕ) → n < length xs → AllAre f false (without_at xs (suc n)) → f (get_or xs n no_element) ≡ false
  fails_before [] n lt a = absurd (omega arith)
  fails_before (x ∷ xs) zero lt a = a.0
  fails_before (x ∷ xs) (suc n) lt a = fails_before xs n (omega (arith, lt)) a.1

  -- where the one in front of a rank passes, all there pass
  pub front_passes : (xs : List Element) (n : ℕ) → n < length xs → IsParted f (without_at xs (suc n)) → f (get_or xs n no_element) ≡ true → AllAre f true (take (suc n) xs)
  front_passes [] n lt p e = absurd (omega arith)
  front_passes (x ∷ xs) zero lt p e = (e, tt)
  front_passes (x ∷ xs) (suc n) lt (inl p) e = (p.0, front_passes xs n (omega (arith, lt)) p.1 e)
  front_passes (x ∷ xs) (suc n) lt (inr p) e = never (f (get_or xs n no_element)) e (fails_before xs n (omega (arith, lt)) p.1)

  fails_behind : (xs : List Element) (n : ℕ) → AllAre f false (without_at xs n) → AllAre f false (drop (suc n) xs)
  fails_behind [] zero a = tt
  fails_behind [] (suc n) a = tt
  fails_behind (x ∷ xs) zero a = a
  fails_behind (x ∷ xs) (suc n) a = fails_behind xs n a.1

  -- where the one behind a rank fails, all there fail
  pub back_fails : (xs : List Element) (n : ℕ) → suc n < length xs → IsParted f (without_at xs n) → f (get_or xs (suc n) no_element) ≡ false → AllAre f false (drop (suc n) xs)
  back_fails [] n lt p e = absurd (omega arith)
  back_fails (x ∷ []) zero lt p e = absurd (omega (arith, lt))
  back_fails (x ∷ y ∷ xs) zero lt (inl p) e = never (f y) p.0 e
  back_fails (x ∷ y ∷ xs) zero lt (inr p) e = (p.0, p.1)
  back_fails (x ∷ xs) (suc n) lt (inl p) e = back_fails xs n (omega (arith, lt)) p.1 e
  back_fails (x ∷ xs) (suc n) lt (inr p) e = fails_behind xs n p.1

  -- those that pass are those in front of a rank
  pub count_front : (xs : List Element) (rank : ℕ) → rank < length xs → AllAre f true (take rank xs) → AllAre f false (drop (suc rank) xs) → count_by f (without_at xs rank) ≡ rank
  count_front [] rank lt a b = absurd (omega arith)
  count_front (x ∷ xs) zero lt a b = count_none f xs b
  count_front (x ∷ xs) (suc rank) lt a b = count_yes f x (without_at xs rank) a.0 ∙ ap suc (count_front xs rank (omega (arith, lt)) a.1 b)

-- nothing is behind the last one
pub none_behind : (f : Element → Bool) (xs : List Element) (n : ℕ) → n + 1 ≡ length xs → AllAre f false (drop (suc n) xs)
none_behind f [] n e = tt
none_behind f (x ∷ []) zero e = tt
none_behind f (x ∷ y ∷ xs) zero e = absurd (omega (arith, e))
none_behind f (x ∷ xs) (suc n) e = none_behind f xs n (omega (arith, e))

-- an element taken out and put back at its place with another value
pub put_back : (xs : List Element) (rank : ℕ) (y : Element) → rank < length xs → with_at (without_at xs rank) rank y ≡ slice_set xs rank y
put_back [] rank y lt = absurd (omega arith)
put_back (x ∷ xs) zero y lt = refl
put_back (x ∷ xs) (suc rank) y lt = ap (λ zs. x ∷ zs) (put_back xs rank y (omega (arith, lt)))

-- ---- over the towers

module _ (t : Towers) (rank : ℕ) where
  many : length (items t) ≡ length (order t)
  many = length_of_map (element_at t) (order t)

  -- the element of the owner in front of a rank above 0
  pub element_before : (owner : ℕ) → rank < length (order t) → 0 < rank → owner ≡ suc (get_or (order t) (rank - 1) 0) → element_at t (owner - 1) ≡ get_or (items t) (rank - 1) no_element
  element_before owner lt some is =
      let key : owner - 1 ≡ get_or (order t) (rank - 1) 0 = omega (arith, is) in
      ap (element_at t) key ∙ element_there t (rank - 1) (omega (arith, lt))

  -- the element that a link from the tower at a rank leads to
  pub element_behind : (next : ℕ) → rank + 1 < length (order t) → next ≡ suc (get_or (order t) (rank + 1) 0) → element_at t (next - 1) ≡ get_or (items t) (suc rank) no_element
  element_behind next more is =
      let key : next - 1 ≡ get_or (order t) (rank + 1) 0 = omega (arith, is) in
      let one : rank + 1 ≡ suc rank = omega arith in
      ap (element_at t) key ∙ element_there t (rank + 1) more ∙ ap (λ n. get_or (items t) n no_element) one

  pub each_in_front : (P : Element → Type 0) → rank < length (order t) → 0 < rank → EachIs P (without_at (items t) rank) → P (get_or (items t) (rank - 1) no_element)
  each_in_front P lt some each =
      let one : suc (rank - 1) ≡ rank = omega (arith, some) in
      each_before P (items t) (rank - 1) (omega (arith, lt, many)) (subst (λ n. EachIs P (without_at (items t) n)) (sym one) each)

  pub each_there : (P : Element → Type 0) → rank + 1 < length (order t) → EachIs P (without_at (items t) rank) → P (get_or (items t) (suc rank) no_element)
  each_there P more each = each_after P (items t) rank (omega (arith, more, many)) each

  pub before_passes : (f : Element → Bool) → rank < length (order t) → 0 < rank → IsParted f (without_at (items t) rank) → f (get_or (items t) (rank - 1) no_element) ≡ true
      → AllAre f true (take rank (items t))
  before_passes f lt some parted passes =
      let one : suc (rank - 1) ≡ rank = omega (arith, some) in
      subst (λ n. AllAre f true (take n (items t))) one
      (front_passes f (items t) (rank - 1) (omega (arith, lt, many)) (subst (λ n. IsParted f (without_at (items t) n)) (sym one) parted) passes)

  pub behind_fails : (f : Element → Bool) → rank + 1 < length (order t) → IsParted f (without_at (items t) rank) → f (get_or (items t) (suc rank) no_element) ≡ false
      → AllAre f false (drop (suc rank) (items t))
  behind_fails f more parted fails = back_fails f (items t) rank (omega (arith, more, many)) parted fails

  pub none_left : (f : Element → Bool) → rank + 1 ≡ length (order t) → AllAre f false (drop (suc rank) (items t))
  none_left f last = none_behind f (items t) rank (last ∙ sym many)

-- what isn't so is false
pub not_above : (b : Bool) → IsTrue (not b) → b ≡ false
not_above true h = cc
not_above false h = refl
