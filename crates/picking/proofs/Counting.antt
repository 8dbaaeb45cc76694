-- How many keys a map has, by lists of keys.
use Rattle.std.proofs.Common.{◌≡◌, inl, inr, ℕ, ◌-◌, ◌<◌, ◌≤◌, Bool, true, false, cond, List, [], ◌∷◌, length, Option, Some, None, is_some, refl, sym, ap, subst, ◌∙◌, arith}
use Rattle.std.specs.Prelude.{bytes_eq}
use Rattle.std.specs.List.{Contains, count_by}
use Rattle.std.specs.Ordering.{nat_cmp}
use Rattle.std.specs.Cmp.Lexicographic.{slice_cmp, nat_list_cmp_total}
use Rattle.std.specs.FinMap.{FinMap, empty, get, remove, get-empty, get-remove, len, len-remove, len-empty, empty_of_len, same_map, slice_cmp-IsAntisymmetric, nat_cmp-IsAntisymmetric}
use Rattle.std.proofs.lemmas.Bool.{cond-true, cond-false, cases_Bool}
use Rattle.std.proofs.lemmas.Slice.Eq.{bytes_eq-Decides}
use Rattle.blocks.proofs.Sums.{count_cons}
use Rattle.set_object.proofs.Sets.{tied, tied_same, tied_other_in_maps, two_ways}
use Rattle.plain_world.proofs.Containing.{contains_first, contains_later, contains_cases}

-- no string stands twice in the list
abbrev pub AreOnce : List (List ℕ) → Type 0
AreOnce [] = Unit {0}
AreOnce (x ∷ xs) = (Contains xs x → ⊥) × AreOnce xs

pub nothing_in : {A : Type 0} (x : A) → Contains [] x → ⊥
nothing_in x c = let below : c.0 < 0 = c.1 in omega arith

uncounted : (x : List ℕ) (xs : List (List ℕ)) → (Contains xs x → ⊥) → count_by (bytes_eq x) xs ≡ 0
uncounted x [] lacks = refl
uncounted x (y ∷ xs) lacks = elim (cases_Bool (bytes_eq x y)) [
  | inl same ↦ absurd (lacks (subst (λ (k : List ℕ). Contains (y ∷ xs) k) (sym ((bytes_eq-Decides x y).0 same)) (contains_first y xs)))
  | inr differ ↦
      (let none : cond {A = ℕ} (bytes_eq x y) 1 0 ≡ 0 = ap (λ (b : Bool). cond b 1 0) differ in
      omega (arith, count_cons (bytes_eq x) y xs, none, uncounted x xs (λ c. lacks (contains_later y x xs c))))
]

-- a string is counted once at most
pub counted_once : (x : List ℕ) (xs : List (List ℕ)) → AreOnce xs → count_by (bytes_eq x) xs ≤ 1
counted_once x [] once = omega arith
counted_once x (y ∷ xs) once = elim (cases_Bool (bytes_eq x y)) [
  | inl same ↦
      (let one : cond {A = ℕ} (bytes_eq x y) 1 0 ≡ 1 = ap (λ (b : Bool). cond b 1 0) same in
      let is : x ≡ y = (bytes_eq-Decides x y).0 same in
      omega (arith, count_cons (bytes_eq x) y xs, one, uncounted x xs (λ c. once.0 (subst (λ (k : List ℕ). Contains xs k) is c))))
  | inr differ ↦
      (let none : cond {A = ℕ} (bytes_eq x y) 1 0 ≡ 0 = ap (λ (b : Bool). cond b 1 0) differ in
      omega (arith, count_cons (bytes_eq x) y xs, none, counted_once x xs once.1))
]

module _ {V : Type 0} where
  abbrev has : FinMap (slice_cmp nat_cmp) V → List ℕ → Bool
  has keys x = is_some (get keys x)

  nothing : (o : Option V) → (is_some o ≡ true → ⊥) → o ≡ None
  nothing None h = refl
  nothing (Some v) h = absurd (h refl)

  -- a map without a key
  pub no_key : (keys : FinMap (slice_cmp nat_cmp) V) → ((x : List ℕ) → has keys x ≡ true → ⊥) → len keys ≡ 0
  no_key keys lacks =
      let same : keys ≡ empty = same_map nat_list_cmp_total (slice_cmp-IsAntisymmetric nat_cmp-IsAntisymmetric) keys empty
      (λ q. nothing (get keys q) (lacks q) ∙ sym (get-empty (slice_cmp nat_cmp) q)) in
      ap len same ∙ len-empty (slice_cmp nat_cmp) V

  some_len : (keys : FinMap (slice_cmp nat_cmp) V) (x : List ℕ) → has keys x ≡ true → (len keys ≡ 0 → ⊥) → 1 ≤ len keys
  some_len keys x there some = omega (arith, some)

  taken : (t : Bool) (o : Option V) → is_some (cond t None o) ≡ cond t false (is_some o)
  taken true o = refl
  taken false o = refl

  has_taken : (keys : FinMap (slice_cmp nat_cmp) V) (x q : List ℕ) → has (remove keys x) q ≡ cond (tied q x) false (has keys q)
  has_taken keys x q = ap is_some (get-remove nat_list_cmp_total keys x q) ∙ taken (tied q x) (get keys q)

  -- what is left without a key
  left : (keys : FinMap (slice_cmp nat_cmp) V) (x q : List ℕ) → has (remove keys x) q ≡ true → (q ≡ x → ⊥) × (has keys q ≡ true)
  left keys x q h = elim (cases_Bool (tied q x)) [
    | inl t ↦ absurd (two_ways (has (remove keys x) q) h (has_taken keys x q ∙ cond-true _ _ _ t))
    | inr f ↦ ((λ same. two_ways (tied q x) (tied_same q x same) f), sym (has_taken keys x q ∙ cond-false _ _ _ f) ∙ h)
  ]

  stays : (keys : FinMap (slice_cmp nat_cmp) V) (x q : List ℕ) → (q ≡ x → ⊥) → has keys q ≡ true → has (remove keys x) q ≡ true
  stays keys x q differ h = has_taken keys x q ∙ cond-false _ _ _ (tied_other_in_maps q x differ) ∙ h

  -- a list of keys, none of which stands twice, is at most as long as there are keys
  pub keys_at_least : (keys : FinMap (slice_cmp nat_cmp) V) (list : List (List ℕ)) → AreOnce list → ((x : List ℕ) → Contains list x → has keys x ≡ true) → length list ≤ len keys
  keys_at_least keys [] once real = omega arith
  keys_at_least keys (x ∷ xs) once real =
      let there : has keys x ≡ true = real x (contains_first x xs) in
      let fewer : len (remove keys x) ≡ len keys - 1 = len-remove nat_list_cmp_total keys x ∙ cond-true _ _ _ there in
      let rest = keys_at_least (remove keys x) xs once.1 (λ y c. stays keys x y (λ same. once.0 (subst (λ (k : List ℕ). Contains xs k) same c)) (real y (contains_later x y xs c))) in
      let some : len keys ≡ 0 → ⊥ = λ none. two_ways (has keys x) there (no_len keys x none) in
      omega (arith, fewer, rest, some_len keys x there some)
    where
      no_len : (all : FinMap (slice_cmp nat_cmp) V) (q : List ℕ) → len all ≡ 0 → has all q ≡ false
      no_len all q none = ap (λ s. has s q) (empty_of_len all none) ∙ ap is_some (get-empty (slice_cmp nat_cmp) q)

  -- a list in which all keys stand is at least as long as there are keys
  pub keys_at_most : (keys : FinMap (slice_cmp nat_cmp) V) (list : List (List ℕ)) → ((x : List ℕ) → has keys x ≡ true → Contains list x) → len keys ≤ length list
  keys_at_most keys [] whole = let none : len keys ≡ 0 = no_key keys (λ x h. nothing_in x (whole x h)) in omega (arith, none)
  keys_at_most keys (x ∷ xs) whole = elim (cases_Bool (has keys x)) [
    | inl there ↦
        (let fewer : len (remove keys x) ≡ len keys - 1 = len-remove nat_list_cmp_total keys x ∙ cond-true _ _ _ there in
        let rest = keys_at_most (remove keys x) xs (λ y h. (let was = left keys x y h in behind y was.0 (whole y was.1))) in
        omega (arith, fewer, rest))
    | inr lacks ↦
        (let rest = keys_at_most keys xs (λ y h. behind y (λ same. two_ways (has keys x) (subst (λ (k : List ℕ). has keys k ≡ true) same h) lacks) (whole y h)) in
        omega (arith, rest))
  ]
    where
      behind : (y : List ℕ) → (y ≡ x → ⊥) → Contains (x ∷ xs) y → Contains xs y
      behind y differ c = elim (contains_cases x y xs c) [ inl same ↦ absurd (differ (sym same)) | inr more ↦ more ]
