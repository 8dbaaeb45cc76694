-- The map of a list of pairs, and the first texts that stand in it.
use Rattle.std.proofs.Common.{◌≡◌, ◌≢◌, ℕ, zero, suc, ◌+◌, ◌-◌, ◌<◌, ◌≤◌, Bool, true, false, cond, List, [], ◌∷◌, ◌++◌, length, take, get_or, Option, Some, None, is_some, max, refl, sym}
use Rattle.std.proofs.Common.{ap, ◌∙◌, subst, arith, inl, inr}
use Rattle.std.specs.List.{insert as inserted, remove as removed}
use Rattle.std.proofs.lemmas.Bool.{cond-true, cond-false, cases_Bool}
use Rattle.std.proofs.lemmas.List.{take_more}
use Rattle.std.specs.declared.cmp.Ordering.{Ordering}
use Rattle.std.specs.declared.cmp.Ordering.TheVariants.{Less, Equal, Greater}
use Rattle.std.specs.Ordering.{nat_cmp, eq_by_cmp, is_eq}
use Rattle.std.specs.Cmp.{eq_by_cmp_equiv}
use Rattle.std.specs.Cmp.Lexicographic.{slice_cmp, nat_list_cmp_total}
use Rattle.std.specs.FinMap.{FinMap, empty, from_entries, find, get, insert, remove, get-empty, get-from_entries, get-insert, get-remove, len, len-insert, len-remove, len-empty, same_map}
use Rattle.std.specs.FinMap.{slice_cmp-IsAntisymmetric, nat_cmp-IsAntisymmetric}
use Rattle.pack_pairs.specs.Pairs.{Pair, IsFirst, IsOnce, second_of, seconded, map_of_pairs, longest}
use Rattle.pack_pairs.proofs.Lists.{no_pair}

-- both are the same bytes
abbrev pub tied : List ℕ → List ℕ → Bool
tied q k = eq_by_cmp (slice_cmp nat_cmp) q k

pub tied_true : (q k : List ℕ) → tied q k ≡ true → q ≡ k
tied_true q k h = slice_cmp-IsAntisymmetric nat_cmp-IsAntisymmetric q k (equal (slice_cmp nat_cmp q k) h)
  where
    equal : (o : Ordering) → is_eq o ≡ true → o ≡ Equal
    equal Less h = cc
    equal Equal h = refl
    equal Greater h = cc

pub tied_same : (q k : List ℕ) → q ≡ k → tied q k ≡ true
tied_same q k is = ap (tied q) (sym is) ∙ (eq_by_cmp_equiv nat_list_cmp_total).refl q

pub tied_other_in_maps : (q k : List ℕ) → (q ≡ k → ⊥) → tied q k ≡ false
tied_other_in_maps q k h = elim (cases_Bool (tied q k)) [ inl t ↦ absurd (h (tied_true q k t)) | inr f ↦ f ]

two_ways : (b : Bool) → b ≡ true → b ≡ false → ⊥
two_ways b h k = cc

some_none : {A : Type 0} (o : Option A) (x : A) → o ≡ Some x → o ≡ None → ⊥
some_none o x h k = cc

pub maps_alike : {X : Type 0} (m n : FinMap (slice_cmp nat_cmp) X) → ((q : List ℕ) → get m q ≡ get n q) → m ≡ n
maps_alike = same_map nat_list_cmp_total (slice_cmp-IsAntisymmetric nat_cmp-IsAntisymmetric)

pub get_pairs : (list : List Pair) (q : List ℕ) → get (map_of_pairs list) q ≡ second_of q list
get_pairs list q = get-from_entries nat_list_cmp_total list q

-- ---- one first text

-- the first pair does not have it, nor the others
pub none_parts : (q : List ℕ) (p : Pair) (rest : List Pair) → second_of q (p ∷ rest) ≡ None → (tied q p.0 ≡ false) × (second_of q rest ≡ None)
none_parts q p rest h = elim (cases_Bool (tied q p.0)) [
  | inl t ↦ absurd (some_none (second_of q (p ∷ rest)) p.1 (cond-true _ _ _ t) h)
  | inr f ↦ (f, sym (cond-false _ _ _ f) ∙ h)
]

pub none_append : (q : List ℕ) (xs ys : List Pair) → second_of q xs ≡ None → second_of q ys ≡ None → second_of q (xs ++ ys) ≡ None
none_append q [] ys h k = k
none_append q (p ∷ rest) ys h k = let parts = none_parts q p rest h in cond-false _ _ _ parts.0 ∙ none_append q rest ys parts.1 k

-- one pair more does not have it
pub none_more : (q : List ℕ) (list : List Pair) (i : ℕ) → i < length list → second_of q (take i list) ≡ None → ((get_or list i no_pair).0 ≡ q → ⊥) → second_of q (take (i + 1) list) ≡ None
none_more q list i h out other =
    ap (second_of q) (take_more list i no_pair h)
    ∙ none_append q (take i list) (get_or list i no_pair ∷ []) out (cond-false _ _ _ (tied_other_in_maps q (get_or list i no_pair).0 (λ same. other (sym same))))

-- it stands at the index, and not before
pub first_here : (q : List ℕ) (list : List Pair) (i : ℕ) → i < length list → second_of q (take i list) ≡ None → (get_or list i no_pair).0 ≡ q → IsFirst q list i
first_here q [] i h out is = absurd (omega (arith, h))
first_here q (p ∷ rest) zero h out is = is
first_here q (p ∷ rest) (suc i) h out is =
    let parts = none_parts q p (take i rest) out in
    ((λ same. two_ways (tied q p.0) (tied_same q p.0 (sym same)) parts.0), first_here q rest i (omega (arith, h)) parts.1 is)

pub first_inside : (q : List ℕ) (list : List Pair) (i : ℕ) → IsFirst q list i → i < length list
first_inside q [] i h = absurd h
first_inside q (p ∷ rest) zero h = omega arith
first_inside q (p ∷ rest) (suc i) h = omega (arith, first_inside q rest i h.1)

pub first_second : (q : List ℕ) (list : List Pair) (i : ℕ) → IsFirst q list i → second_of q list ≡ Some (get_or list i no_pair).1
first_second q [] i h = absurd h
first_second q (p ∷ rest) zero h = cond-true _ _ _ (tied_same q p.0 (sym h))
first_second q (p ∷ rest) (suc i) h = cond-false _ _ _ (tied_other_in_maps q p.0 (λ same. h.0 (sym same))) ∙ first_second q rest i h.1

-- ---- a pair more

pub find_last : (q k v : List ℕ) (list : List Pair) → second_of k list ≡ None → second_of q (list ++ (k, v) ∷ []) ≡ cond (tied q k) (Some v) (second_of q list)
find_last q k v [] h = refl
find_last q k v (p ∷ rest) h =
    let parts = none_parts k p rest h in
    ap (cond (tied q p.0) (Some p.1)) (find_last q k v rest parts.1) ∙ elim (cases_Bool (tied q k)) [
      | inl t ↦ (let out : tied q p.0 ≡ false = ap (λ x. tied x p.0) (tied_true q k t) ∙ parts.0 in cond-false _ _ _ out ∙ cond-true _ _ _ t ∙ sym (cond-true _ _ _ t))
      | inr f ↦ ap (cond (tied q p.0) (Some p.1)) (cond-false _ _ _ f) ∙ sym (cond-false _ _ _ f)
    ]

pub map_last : (list : List Pair) (k v : List ℕ) → second_of k list ≡ None → map_of_pairs (list ++ (k, v) ∷ []) ≡ insert (map_of_pairs list) k v
map_last list k v h = maps_alike _ _
    (λ q. get_pairs (list ++ (k, v) ∷ []) q ∙ find_last q k v list h ∙ ap (cond (tied q k) (Some v)) (sym (get_pairs list q))
    ∙ sym (get-insert nat_list_cmp_total (map_of_pairs list) k v q))

pub once_last : (list : List Pair) (k v : List ℕ) → IsOnce list → second_of k list ≡ None → IsOnce (list ++ (k, v) ∷ [])
once_last [] k v once h = (refl, tt)
once_last (p ∷ rest) k v once h =
    let parts = none_parts k p rest h in
    (none_append p.0 rest ((k, v) ∷ []) once.0 (cond-false _ _ _ (tied_other_in_maps p.0 k (λ same. two_ways (tied k p.0) (tied_same k p.0 (sym same)) parts.0))), once_last rest k v once.1 parts.1)

-- ---- another second

find_seconded : (q k v : List ℕ) (list : List Pair) (i : ℕ) → IsFirst k list i → second_of q (seconded list i v) ≡ cond (tied q k) (Some v) (second_of q list)
find_seconded q k v [] i h = absurd h
find_seconded q k v (p ∷ rest) zero h = ap (λ x. cond (tied q x) (Some v) (second_of q rest)) h ∙ elim (cases_Bool (tied q k)) [
  | inl t ↦ cond-true _ _ _ t ∙ sym (cond-true _ _ _ t)
  | inr f ↦ cond-false _ _ _ f ∙ sym (cond-false _ _ _ f ∙ ap (λ x. cond (tied q x) (Some p.1) (second_of q rest)) h ∙ cond-false _ _ _ f)
]
find_seconded q k v (p ∷ rest) (suc i) h = ap (cond (tied q p.0) (Some p.1)) (find_seconded q k v rest i h.1) ∙ elim (cases_Bool (tied q k)) [
  | inl t ↦ (let out : tied q p.0 ≡ false = tied_other_in_maps q p.0 (λ same. h.0 (sym same ∙ tied_true q k t)) in cond-false _ _ _ out ∙ cond-true _ _ _ t ∙ sym (cond-true _ _ _ t))
  | inr f ↦ ap (cond (tied q p.0) (Some p.1)) (cond-false _ _ _ f) ∙ sym (cond-false _ _ _ f)
]

pub map_seconded : (list : List Pair) (i : ℕ) (k v : List ℕ) → IsFirst k list i → map_of_pairs (seconded list i v) ≡ insert (map_of_pairs list) k v
map_seconded list i k v h = maps_alike _ _
    (λ q. get_pairs (seconded list i v) q ∙ find_seconded q k v list i h ∙ ap (cond (tied q k) (Some v)) (sym (get_pairs list q))
    ∙ sym (get-insert nat_list_cmp_total (map_of_pairs list) k v q))

none_seconded : (q v : List ℕ) (list : List Pair) (i : ℕ) → second_of q list ≡ None → second_of q (seconded list i v) ≡ None
none_seconded q v [] i h = h
none_seconded q v (p ∷ rest) zero h = let parts = none_parts q p rest h in cond-false _ _ _ parts.0 ∙ parts.1
none_seconded q v (p ∷ rest) (suc i) h = let parts = none_parts q p rest h in cond-false _ _ _ parts.0 ∙ none_seconded q v rest i parts.1

pub once_seconded : (list : List Pair) (i : ℕ) (v : List ℕ) → IsOnce list → IsOnce (seconded list i v)
once_seconded [] i v once = tt
once_seconded (p ∷ rest) zero v once = once
once_seconded (p ∷ rest) (suc i) v once = (none_seconded p.0 v rest i once.0, once_seconded rest i v once.1)

-- ---- a pair less

none_removed : (q : List ℕ) (list : List Pair) (i : ℕ) → second_of q list ≡ None → second_of q (removed list i) ≡ None
none_removed q [] zero h = h
none_removed q [] (suc i) h = h
none_removed q (p ∷ rest) zero h = (none_parts q p rest h).1
none_removed q (p ∷ rest) (suc i) h = let parts = none_parts q p rest h in cond-false _ _ _ parts.0 ∙ none_removed q rest i parts.1

pub once_removed : (list : List Pair) (i : ℕ) → IsOnce list → IsOnce (removed list i)
once_removed [] zero once = tt
once_removed [] (suc i) once = tt
once_removed (p ∷ rest) zero once = once.1
once_removed (p ∷ rest) (suc i) once = (none_removed p.0 rest i once.0, once_removed rest i once.1)

find_removed : (q k : List ℕ) (list : List Pair) (i : ℕ) → IsOnce list → IsFirst k list i → second_of q (removed list i) ≡ cond (tied q k) None (second_of q list)
find_removed q k [] i once h = absurd h
find_removed q k (p ∷ rest) zero once h = elim (cases_Bool (tied q k)) [
  | inl t ↦ ap (λ x. second_of x rest) (tied_true q k t ∙ sym h) ∙ once.0 ∙ sym (cond-true _ _ _ t)
  | inr f ↦ sym (cond-false _ _ _ f ∙ ap (λ x. cond (tied q x) (Some p.1) (second_of q rest)) h ∙ cond-false _ _ _ f)
]
find_removed q k (p ∷ rest) (suc i) once h = ap (cond (tied q p.0) (Some p.1)) (find_removed q k rest i once.1 h.1) ∙ elim (cases_Bool (tied q k)) [
  | inl t ↦ (let out : tied q p.0 ≡ false = tied_other_in_maps q p.0 (λ same. h.0 (sym same ∙ tied_true q k t)) in cond-false _ _ _ out ∙ cond-true _ _ _ t ∙ sym (cond-true _ _ _ t))
  | inr f ↦ ap (cond (tied q p.0) (Some p.1)) (cond-false _ _ _ f) ∙ sym (cond-false _ _ _ f)
]

pub map_removed : (list : List Pair) (i : ℕ) (k : List ℕ) → IsOnce list → IsFirst k list i → map_of_pairs (removed list i) ≡ remove (map_of_pairs list) k
map_removed list i k once h = maps_alike _ _
    (λ q. get_pairs (removed list i) q ∙ find_removed q k list i once h ∙ ap (cond (tied q k) None) (sym (get_pairs list q)) ∙ sym (get-remove nat_list_cmp_total (map_of_pairs list) k q))

-- ---- how many first texts there are

pub map_len : (list : List Pair) → IsOnce list → len (map_of_pairs list) ≡ length list
map_len [] once = len-empty (slice_cmp nat_cmp) (List ℕ)
map_len (p ∷ rest) once =
    let none : is_some (get (map_of_pairs rest) p.0) ≡ false = ap is_some (get_pairs rest p.0 ∙ once.0) in
    len-insert nat_list_cmp_total (map_of_pairs rest) p.0 p.1 ∙ cond-false _ _ _ none ∙ omega (arith, map_len rest once.1)

-- what stands at an index does not stand before it
pub once_before : (list : List Pair) (i : ℕ) → IsOnce list → i < length list → second_of (get_or list i no_pair).0 (take i list) ≡ None
once_before [] i once h = absurd (omega (arith, h))
once_before (p ∷ rest) zero once h = refl
once_before (p ∷ rest) (suc i) once h =
    let x = (get_or rest i no_pair).0 in
    let here : i < length rest = omega (arith, h) in
    elim (cases_Bool (tied x p.0)) [
      | inl t ↦ absurd
          (some_none (second_of p.0 rest) (get_or rest i no_pair).1
          (ap (λ k. second_of k rest) (sym (tied_true x p.0 t)) ∙ first_second x rest i (first_here x rest i here (once_before rest i once.1 here) refl)) once.0)
      | inr f ↦ cond-false _ _ _ f ∙ once_before rest i once.1 here
    ]

pub map_more : (list : List Pair) (i : ℕ) → IsOnce list → i < length list → map_of_pairs (take (i + 1) list) ≡ insert (map_of_pairs (take i list)) (get_or list i no_pair).0 (get_or list i no_pair).1
map_more list i once h = ap map_of_pairs (take_more list i no_pair h) ∙ map_last (take i list) (get_or list i no_pair).0 (get_or list i no_pair).1 (once_before list i once h)

-- ---- the longest text

pub longest_last : (list : List Pair) (k v : List ℕ) → longest (list ++ (k, v) ∷ []) ≡ max (max (length k) (length v)) (longest list)
longest_last [] k v = refl
longest_last (p ∷ rest) k v = omega (arith, longest_last rest k v)

pub longest_seconded : (list : List Pair) (i : ℕ) (v : List ℕ) → longest (seconded list i v) ≤ max (length v) (longest list)
longest_seconded [] i v = omega arith
longest_seconded (p ∷ rest) zero v = omega arith
longest_seconded (p ∷ rest) (suc i) v = omega (arith, longest_seconded rest i v)

pub longest_removed : (list : List Pair) (i : ℕ) → longest (removed list i) ≤ longest list
longest_removed [] zero = omega arith
longest_removed [] (suc i) = omega arith
longest_removed (p ∷ rest) zero = omega arith
longest_removed (p ∷ rest) (suc i) = omega (arith, longest_removed rest i)
