-- Lists whose elements are gone over one by one.
use Rattle.std.proofs.Common.{◌≡◌, inl, inr, ℕ, zero, suc, ◌+◌, ◌-◌, ◌<◌, ◌≤◌, List, [], ◌∷◌, ◌++◌, map, take, drop, length, get_or, set, refl, sym, ap, ◌∙◌, subst, arith}
use Rattle.std.specs.Prelude.{◌≢◌, Result, Ok, Err, OnOk}
use Rattle.std.specs.List.{Contains}
use Rattle.std.proofs.lemmas.Bool.{cases_eq, cases_lt}
use Rattle.std.proofs.lemmas.Grind.{common_steps}
use Rattle.std.proofs.lemmas.List.{map-append, map-set, length-map, get_or-map, length-drop, length-set, get_or-set_same, get_or-set_other, get_or_past, get_or_default, take_all}
use Rattle.session_desk.specs.Watching.{Each}

-- what stands nowhere else is pushed
pub pushed_none : {A : Type 0} (xs : List A) (k : ℕ) (none : A) → get_or (xs ++ none ∷ []) k none ≡ get_or xs k none
pushed_none [] zero none = refl
pushed_none [] (suc k) none = refl
pushed_none (x ∷ xs) zero none = refl
pushed_none (x ∷ xs) (suc k) none = pushed_none xs k none

module _ {A : Type 0} (none : A) (R : A → A → Type 0) where
  -- the first so many are, and the others stand as they stood
  pub record Upto (n : ℕ) (olds news : List A) : Type 0 where
    pub many : length news ≡ length olds
    pub done : (k : ℕ) → k < n → R (get_or olds k none) (get_or news k none)
    pub others : (k : ℕ) → n ≤ k → get_or news k none ≡ get_or olds k none

  pub upto_none : (xs : List A) → Upto 0 xs xs
  upto_none xs = record { many = refl; done = λ k below. absurd (omega (arith, below)); others = λ k above. refl }

  pub upto_next : (n : ℕ) (olds news : List A) (y : A) → n < length olds → Upto n olds news → R (get_or news n none) y → Upto (n + 1) olds (set news n y)
  upto_next n olds news y here u r = record {
    many = length-set news n y ∙ u.many;
    done = done;
    others = λ k above. let other : k ≢ n = omega (arith, above) in get_or-set_other news n k y none other ∙ u.others k (omega (arith, above));
  }
    where
      within : n < length news
      within = let many = u.many in omega (arith, here, many)

      done : (k : ℕ) → k < n + 1 → R (get_or olds k none) (get_or (set news n y) k none)
      done k below = elim (cases_eq k n) [
        | inl same ↦ subst (λ j. R (get_or olds j none) (get_or (set news n y) j none)) (sym same)
            (subst (λ (z : A). R (get_or olds n none) z) (sym (get_or-set_same news n y none within)) (subst (λ (z : A). R z y) (u.others n (omega arith)) r))
        | inr other ↦ subst (λ (z : A). R (get_or olds k none) z) (sym (get_or-set_other news n k y none other)) (u.done k (omega (arith, below, other)))
      ]

  pub upto_all : (n : ℕ) (olds news : List A) → length olds ≤ n → Upto n olds news → Each none R olds news
  upto_all n olds news all u = record { many = u.many; each = λ k below. u.done k (omega (arith, below, all)) }

  -- what is related at each place within is so at every place, where nothing is related to itself
  pub each_at : (olds news : List A) (k : ℕ) → R none none → Each none R olds news → R (get_or olds k none) (get_or news k none)
  each_at olds news k blank e = elim (cases_lt k (length olds)) [
    | inl below ↦ e.each k below
    | inr above ↦ (let many = e.many in
        subst (λ (x : A). R x (get_or news k none)) (sym (get_or_past olds k none above)) (subst (λ (y : A). R none y) (sym (get_or_past news k none (omega (arith, above, many)))) blank))
  ]

-- what is known where a call succeeded
pub ok_so : {A E : Type 0} (r : Result A E) {P Q : Type 0} → (P → Q) → OnOk r P → OnOk r Q
ok_so (Ok a) f p = f p
ok_so (Err e) f p = tt

pub ok_both : {A E : Type 0} (r : Result A E) {P Q R : Type 0} → (P → Q → R) → OnOk r P → OnOk r Q → OnOk r R
ok_both (Ok a) f p q = f p q
ok_both (Err e) f p q = tt

-- the elements behind the first, one more of them
module _ {A B : Type 0} (f : A → B) where
  -- one more of the items
  pub mapped_more : (xs : List A) (i : ℕ) (x : A) → i < length xs → x ≡ get_or xs i x → map f (take i xs) ++ f x ∷ [] ≡ map f (take (i + 1) xs)
  mapped_more xs i x here is =
      let more : take (i + 1) xs ≡ take i xs ++ x ∷ [] = grind (arith, common_steps) in
      sym (ap (map f) more ∙ map-append f (take i xs) (x ∷ []))

  pub mapped_next : (xs : List A) (i : ℕ) (d x : A) → 1 ≤ i → i < length xs → x ≡ get_or xs i d
      → map f (take (i - 1) (drop 1 xs)) ++ f x ∷ [] ≡ map f (take ((i + 1) - 1) (drop 1 xs))
  mapped_next [] i d x low here is = absurd (omega (arith, here))
  mapped_next (w ∷ xs) zero d x low here is = absurd (omega (arith, low))
  mapped_next (w ∷ xs) (suc j) d x low here is =
      let below : j < length xs = omega (arith, here) in
      let one : suc j - 1 ≡ j = omega arith in
      let two : (suc j + 1) - 1 ≡ j + 1 = omega arith in
      subst (λ n. map f (take n xs) ++ f x ∷ [] ≡ map f (take ((suc j + 1) - 1) xs)) (sym one)
      (subst (λ n. map f (take j xs) ++ f x ∷ [] ≡ map f (take n xs)) (sym two) (mapped_more xs j x below (is ∙ get_or_default xs j d x below)))

  pub mapped_rest : (xs : List A) (i : ℕ) → 1 ≤ i → length xs ≤ i → map f (take (i - 1) (drop 1 xs)) ≡ map f (drop 1 xs)
  mapped_rest xs i low all = ap (map f) (take_all (i - 1) (drop 1 xs) (let long = length-drop 1 xs in omega (arith, long, all, low)))

  -- what an item is mapped to is one of them
  pub contains_mapped : (xs : List A) (i : ℕ) (x : A) → i < length xs → x ≡ get_or xs i x → Contains (map f xs) (f x)
  contains_mapped xs i x here is = let long = length-map xs f in (i, omega (arith, here, long), get_or-map f xs i x (f x) here ∙ ap f (sym is))

  -- one more of them is gone over
  pub mapped_upto : (none : B) (R : B → B → Type 0) (i : ℕ) (olds : List B) (xs : List A) (x y : A) → i < length xs → x ≡ get_or xs i x → R (f x) (f y)
      → Upto none R i olds (map f xs) → Upto none R (i + 1) olds (map f (set xs i y))
  mapped_upto none R i olds xs x y here is r u =
      let many = u.many in
      let long = length-map xs f in
      let at : get_or (map f xs) i none ≡ f x = get_or-map f xs i x none here ∙ ap f (sym is) in
      subst (Upto none R (i + 1) olds) (sym (map-set f xs i y))
      (upto_next none R i olds (map f xs) (f y) (omega (arith, here, long, many)) u (subst (λ (z : B). R z (f y)) (sym at) r))
