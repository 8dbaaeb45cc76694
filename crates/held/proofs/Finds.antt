-- The key blocks that a cycle found: each stands in the list once.
use Rattle.std.proofs.Common.{◌≡◌, ◌≢◌, inl, inr, ℕ, zero, suc, ◌+◌, ◌≤◌, ◌<◌, Bool, true, false, cond, nat_lt, List, [], ◌∷◌, ◌++◌, take, slice_get, Option, Some, None, refl, sym, ap}
use Rattle.std.proofs.Common.{◌∙◌, subst, arith}
use Rattle.std.specs.Prelude.{◌==◌}
use Rattle.std.proofs.lemmas.Bool.{cond-true, cond-false, eq-eqb}
use Rattle.blocks.specs.declared.BlockRef.{BlockRef}
use Rattle.blocks.specs.Blocks.{Blocks, ref_eq, times}
use Rattle.blocks.proofs.Refs.{ref_eq_refl, cases_ref}
use Rattle.blocks.proofs.Change.{one_if}
use Rattle.blocks.proofs.Times.{times-append}
use Rattle.rev_cursor.specs.Span.{times as span_times}
use Rattle.rehash_dict.specs.Table.{Element, Table, item}
use Rattle.rehash_dict.specs.Keyed.{Keyed}
use Rattle.expiry.specs.Found.{gone_at, gone_of}

-- ---- lists of references

pub times_take : (r : BlockRef) (n : ℕ) (xs : List BlockRef) → times r (take n xs) ≤ times r xs
times_take r zero [] = omega arith
times_take r (suc n) [] = omega arith
times_take r zero (x ∷ xs) = omega arith
times_take r (suc n) (x ∷ xs) = omega (arith, times_take r n xs)

take_more : (xs : List BlockRef) (n : ℕ) (x : BlockRef) → slice_get xs n ≡ Some x → take (suc n) xs ≡ take n xs ++ x ∷ []
take_more [] n x h = cc
take_more (y ∷ xs) zero x h = (let same : y ≡ x = cc in ap (λ z. z ∷ []) same)
take_more (y ∷ xs) (suc n) x h = ap (λ l. y ∷ l) (take_more xs n x h)

pub take_next : (xs : List BlockRef) (n : ℕ) (x : BlockRef) → slice_get xs n ≡ Some x → take (n + 1) xs ≡ take n xs ++ x ∷ []
take_next xs n x h = (let next : n + 1 ≡ suc n = omega arith in ap (λ k. take k xs) next ∙ take_more xs n x h)

-- what stands at an index of a list that has nothing twice doesn't stand before it
pub out_front : (xs : List BlockRef) (n : ℕ) (x : BlockRef) → times x xs ≤ 1 → slice_get xs n ≡ Some x → times x (take n xs) ≡ 0
out_front xs n x once h =
    let itself : one_if (ref_eq x x) ≡ 1 = cond-true _ _ _ (ref_eq_refl x) in
    let split : times x (take (n + 1) xs) ≡ times x (take n xs ++ x ∷ []) = ap (times x) (take_next xs n x h) in
    omega (arith, once, times_take x (n + 1) xs, split, times-append x (take n xs) (x ∷ []), itself)

-- ---- what is gone among the items of a move

module _ (m : Blocks) (t : Table ℕ) (k : Keyed m t) (moment : ℕ) where
  -- an item gives its own key, once, or nothing
  gives : (r : BlockRef) (e : Element ℕ) (late : Bool) → times r (cond late (e.key ∷ []) []) ≤ one_if (ref_eq e.key r)
  gives r e true = omega arith
  gives r e false = omega arith

  at_most : (r : BlockRef) (o : Option (Element ℕ)) → times r (gone_at moment o) ≤ 1
  at_most r None = omega arith
  at_most r (Some e) = (let few = gives r e (nat_lt e.value moment) in elim (cases_ref e.key r) [
    | inl same ↦ (let one : one_if (ref_eq e.key r) ≤ 1 = below (ref_eq e.key r) in omega (arith, few, one))
    | inr other ↦ (let none : one_if (ref_eq e.key r) ≡ 0 = cond-false _ _ _ other in omega (arith, few, none))
  ])
    where
      below : (b : Bool) → one_if b ≤ 1
      below true = omega arith
      below false = omega arith

  gives_none : (r : BlockRef) (o : Option (Element ℕ)) → ((e : Element ℕ) → o ≡ Some e → e.key ≢ r) → times r (gone_at moment o) ≡ 0
  gives_none r None other = refl
  gives_none r (Some e) other = (let few = gives r e (nat_lt e.value moment) in elim (cases_ref e.key r) [
    | inl same ↦ absurd (other e refl same)
    | inr apart ↦ (let none : one_if (ref_eq e.key r) ≡ 0 = cond-false _ _ _ apart in omega (arith, few, none))
  ])

  -- a block that names the key of no item of the move
  none_named : (r : BlockRef) (xs : List ℕ) → ((i : ℕ) (e : Element ℕ) → 0 < span_times i xs → item t i ≡ Some e → e.key ≢ r) → times r (gone_of t moment xs) ≡ 0
  none_named r [] other = refl
  none_named r (x ∷ xs) other =
      let itself : one_if (x == x) ≡ 1 = cond-true _ _ _ (eq-eqb x x refl) in
      let first = gives_none r (item t x) (λ e found. other x e (omega (arith, itself)) found) in
      let rest = none_named r xs (λ i e some found. other i e (omega (arith, some)) found) in
      omega (arith, first, rest, times-append r (gone_at moment (item t x)) (gone_of t moment xs))

  -- an item of the move, and those behind it
  by_item : (x : ℕ) (xs : List ℕ) (r : BlockRef) → span_times x (x ∷ xs) ≤ 1 → times r (gone_of t moment xs) ≤ 1 → (o : Option (Element ℕ)) → item t x ≡ o
      → times r (gone_at moment o) + times r (gone_of t moment xs) ≤ 1
  by_item x xs r once rest None is = omega (arith, rest)
  by_item x xs r once rest (Some e) is = elim (cases_ref e.key r) [
    | inl same ↦
        (let itself : one_if (x == x) ≡ 1 = cond-true _ _ _ (eq-eqb x x refl) in
        let none = none_named r xs (λ i f some found named.
        (let here : i ≡ x = k.apart i x f e found is (ap m (named ∙ sym same)) in
        let again : 0 < span_times x xs = subst (λ n. 0 < span_times n xs) here some in
        omega (arith, again, once, itself))) in
        omega (arith, none, at_most r (Some e)))
    | inr other ↦
        (let few = gives r e (nat_lt e.value moment) in
        let none : one_if (ref_eq e.key r) ≡ 0 = cond-false _ _ _ other in
        omega (arith, few, none, rest))
  ]

  -- no block is found twice
  pub found_once : (xs : List ℕ) → ((i : ℕ) → span_times i xs ≤ 1) → (r : BlockRef) → times r (gone_of t moment xs) ≤ 1
  found_once [] once r = omega arith
  found_once (x ∷ xs) once r =
      (let rest = found_once xs (λ i. (let all = once i in omega (arith, all))) r in
      let parts = by_item x xs r (once x) rest (item t x) refl in
      omega (arith, parts, times-append r (gone_at moment (item t x)) (gone_of t moment xs)))

  pub front_once : (n : ℕ) (xs : List ℕ) → ((i : ℕ) → span_times i xs ≤ 1) → (r : BlockRef) → times r (take n (gone_of t moment xs)) ≤ 1
  front_once n xs once r = omega (arith, times_take r n (gone_of t moment xs), found_once xs once r)
