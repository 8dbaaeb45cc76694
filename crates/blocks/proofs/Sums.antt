-- Sums over the slabs, where some places change.
use Rattle.std.proofs.Common.{◌≡◌, ◌≢◌, ◌⊎◌, inl, inr, ℕ, zero, suc, ◌+◌, ◌<◌, Bool, cond, List, [], ◌∷◌, get_or, length, slice_set, Option, None, refl, sym, ap, ◌∙◌, arith, sum_by}
use Rattle.std.proofs.Common.{count_by, get_or-set_same, get_or-set_other}
use Rattle.std.proofs.lemmas.List.Sums.{sum_by-cons}
use Rattle.std.proofs.lemmas.Bool.{cases_eq}

pub count_cons : {X : Type 0} (p : X → Bool) (x : X) (rest : List X) → count_by p (x ∷ rest) ≡ cond (p x) 1 0 + count_by p rest
count_cons p x rest = sum_by-cons (λ y. cond (p y) 1 0) x rest

module _ {X : Type 0} (f : Option X → ℕ) (none : f None ≡ 0) where
  -- nothing is counted in a place without a slab
  sum_default : (x : Option X) → x ≡ None → f x ≡ 0
  sum_default x h = ap f h ∙ none

  -- the same at each place
  pub sum_same : (xs ys : List (Option X)) → ((j : ℕ) → get_or ys j None ≡ get_or xs j None) → sum_by f ys ≡ sum_by f xs
  sum_same [] [] h = refl
  sum_same [] (y ∷ ys) h = omega (arith, sum_by-cons f y ys, sum_default y (h 0), sum_same [] ys (λ j. h (suc j)))
  sum_same (x ∷ xs) [] h = omega (arith, sum_by-cons f x xs, sum_default x (sym (h 0)), sum_same xs [] (λ j. h (suc j)))
  sum_same (x ∷ xs) (y ∷ ys) h = omega (arith, sum_by-cons f x xs, sum_by-cons f y ys, ap f (h 0), sum_same xs ys (λ j. h (suc j)))

  -- one place changes
  pub sum_changed : (xs ys : List (Option X)) (k : ℕ) → ((j : ℕ) → j ≢ k → get_or ys j None ≡ get_or xs j None) → sum_by f ys + f (get_or xs k None) ≡ sum_by f xs + f (get_or ys k None)
  sum_changed [] [] k h = refl
  sum_changed [] (y ∷ ys) zero h = omega (arith, sum_by-cons f y ys, sum_default None refl, sum_same [] ys (λ j. h (suc j) (λ e. omega arith)))
  sum_changed [] (y ∷ ys) (suc k) h = omega (arith, sum_by-cons f y ys, sum_default y (h 0 (λ e. omega arith)), sum_changed [] ys k (λ j ne. h (suc j) (λ e. ne (omega arith))))
  sum_changed (x ∷ xs) [] zero h = omega (arith, sum_by-cons f x xs, sum_default None refl, sum_same xs [] (λ j. h (suc j) (λ e. omega arith)))
  sum_changed (x ∷ xs) [] (suc k) h = omega (arith, sum_by-cons f x xs, sum_default x (sym (h 0 (λ e. omega arith))), sum_changed xs [] k (λ j ne. h (suc j) (λ e. ne (omega arith))))
  sum_changed (x ∷ xs) (y ∷ ys) zero h = omega (arith, sum_by-cons f x xs, sum_by-cons f y ys, sum_same xs ys (λ j. h (suc j) (λ e. omega arith)))
  sum_changed (x ∷ xs) (y ∷ ys) (suc k) h = omega (arith, sum_by-cons f x xs, sum_by-cons f y ys, ap f (h 0 (λ e. omega arith)), sum_changed xs ys k (λ j ne. h (suc j) (λ e. ne (omega arith))))

  -- two places change, the second of which is in the list
  pub sum_two : (xs ys : List (Option X)) (k m : ℕ) → k ≢ m → m < length ys → ((j : ℕ) → j ≢ k → j ≢ m → get_or ys j None ≡ get_or xs j None)
      → sum_by f ys + f (get_or xs k None) + f (get_or xs m None) ≡ sum_by f xs + f (get_or ys k None) + f (get_or ys m None)
  sum_two xs ys k m apart within h =
      let mid : List (Option X) = slice_set ys m (get_or xs m None) in
      let at_m : get_or mid m None ≡ get_or xs m None = get_or-set_same ys m (get_or xs m None) None within in
      let off : (j : ℕ) → j ≢ m → get_or mid j None ≡ get_or ys j None = λ j ne. get_or-set_other ys m j (get_or xs m None) None ne in
      let first : sum_by f mid + f (get_or xs k None) ≡ sum_by f xs + f (get_or mid k None) = sum_changed xs mid k (λ j ne. by_place j ne (cases_eq j m)) in
      let second : sum_by f ys + f (get_or mid m None) ≡ sum_by f mid + f (get_or ys m None) = sum_changed mid ys m (λ j ne. sym (off j ne)) in
      omega (arith, first, second, ap f at_m, ap f (off k apart))
    where
      by_place : (j : ℕ) → j ≢ k → (j ≡ m) ⊎ (j ≢ m) → get_or (slice_set ys m (get_or xs m None)) j None ≡ get_or xs j None
      by_place j ne (inl e) = ap (λ i. get_or (slice_set ys m (get_or xs m None)) i None) e ∙ (get_or-set_same ys m (get_or xs m None) None within ∙ ap (λ i. get_or xs i None) (sym e))
      by_place j ne (inr other) = get_or-set_other ys m j (get_or xs m None) None other ∙ h j ne other
