-- Sets of strings, and the lists that they are made of.
use Rattle.std.proofs.Common.{◌≡◌, ◌≢◌, inl, inr, ℕ, zero, suc, ◌+◌, ◌-◌, ◌<◌, ◌≤◌, Bool, true, false, cond, List, [], ◌∷◌, ◌++◌, map, length, take, drop, Option, Some, None, is_some}
use Rattle.std.proofs.Common.{refl, sym, ap, ◌∙◌, arith, length-append, get_or}
use Rattle.std.specs.Prelude.{slice_get, IfSome, IfNone}
use Rattle.std.specs.List.{insert as inserted, remove as removed}
use Rattle.std.proofs.lemmas.Bool.{cond-true, cond-false, cases_Bool}
use Rattle.std.proofs.lemmas.List.{take-append-drop, take_more}
use Rattle.std.specs.declared.cmp.Ordering.{Ordering}
use Rattle.std.specs.declared.cmp.Ordering.TheVariants.{Less, Equal, Greater}
use Rattle.std.specs.Ordering.{nat_cmp, eq_by_cmp, is_eq}
use Rattle.std.specs.Cmp.{eq_by_cmp_equiv}
use Rattle.std.specs.Cmp.Lexicographic.{slice_cmp, nat_list_cmp_total}
use Rattle.std.specs.FinMap.{empty, find, get, insert, remove, get-empty, get-from_entries, get-insert, get-remove, len, len-insert, len-remove, len-empty, empty_of_len, same_map}
use Rattle.std.specs.FinMap.{slice_cmp-IsAntisymmetric, nat_cmp-IsAntisymmetric}
use Rattle.set_object.specs.Strings.{Strings, set_of, has, IsOnce}

-- a test has one answer
pub two_ways : (b : Bool) → b ≡ true → b ≡ false → ⊥
two_ways b h k = cc

-- both are the same bytes
abbrev pub tied : List ℕ → List ℕ → Bool
tied q k = eq_by_cmp (slice_cmp nat_cmp) q k

-- strings that compare as equal are the same
pub tied_true : (q k : List ℕ) → tied q k ≡ true → q ≡ k
tied_true q k h = slice_cmp-IsAntisymmetric nat_cmp-IsAntisymmetric q k (equal (slice_cmp nat_cmp q k) h)
  where
    equal : (o : Ordering) → is_eq o ≡ true → o ≡ Equal
    equal Less h = cc
    equal Equal h = refl
    equal Greater h = cc

-- strings that are the same compare as equal
pub tied_same : (q k : List ℕ) → q ≡ k → tied q k ≡ true
tied_same q k is = ap (tied q) (sym is) ∙ (eq_by_cmp_equiv nat_list_cmp_total).refl q

-- strings that differ don't compare as equal
pub tied_other_in_maps : (q k : List ℕ) → q ≢ k → tied q k ≡ false
tied_other_in_maps q k h = elim (cases_Bool (tied q k)) [ inl t ↦ absurd (h (tied_true q k t)) | inr f ↦ f ]

-- the string stands in the list
abbrev pub among : List ℕ → List (List ℕ) → Bool
among q [] = false
among q (x ∷ xs) = cond (tied q x) true (among q xs)

-- where a test chooses something or else an option, there is something if the test holds or the option has some
by_test : (t : Bool) (o : Option (Unit {0})) (b : Bool) → is_some o ≡ b → is_some (cond t (Some tt) o) ≡ cond t true b
by_test true o b h = refl
by_test false o b h = h

-- a list's set has the strings that stand in it
pub has_among : (list : List (List ℕ)) (q : List ℕ) → has (set_of list) q ≡ among q list
unfolding set_of
has_among list q = ap is_some (get-from_entries nat_list_cmp_total (map pair list) q) ∙ look list
  where
    pair : List ℕ → List ℕ × Unit {0}
    pair x = (x, tt)

    look : (xs : List (List ℕ)) → is_some (find (slice_cmp nat_cmp) q (map pair xs)) ≡ among q xs
    look [] = refl
    look (x ∷ xs) = by_test (tied q x) _ (among q xs) (look xs)

-- sets that have the same strings are one
pub sets_alike : (m n : Strings) → ((q : List ℕ) → has m q ≡ has n q) → m ≡ n
sets_alike m n same = same_map nat_list_cmp_total (slice_cmp-IsAntisymmetric nat_cmp-IsAntisymmetric) m n (λ q. one (get m q) (get n q) (same q))
  where
    one : (a b : Option (Unit {0})) → is_some a ≡ is_some b → a ≡ b
    one None None h = refl
    one None (Some y) h = cc
    one (Some x) None h = cc
    one (Some x) (Some y) h = refl

-- the empty set has no string
pub has_empty : (q : List ℕ) → has (empty {X = Unit {0}} {R = slice_cmp nat_cmp}) q ≡ false
has_empty q = ap is_some (get-empty (slice_cmp nat_cmp) q)

-- a set with x put in has x, and of the others what it had
pub has_put : (m : Strings) (x q : List ℕ) → has (insert m x tt) q ≡ cond (tied q x) true (has m q)
has_put m x q = ap is_some (get-insert nat_list_cmp_total m x tt q) ∙ by_test (tied q x) (get m q) (has m q) refl

-- a set with x taken out lacks x, and has of the others what it had
pub has_taken : (m : Strings) (x q : List ℕ) → has (remove m x) q ≡ cond (tied q x) false (has m q)
has_taken m x q = ap is_some (get-remove nat_list_cmp_total m x q) ∙ none (tied q x) (get m q)
  where
    none : (t : Bool) (o : Option (Unit {0})) → is_some (cond t None o) ≡ cond t false (is_some o)
    none true o = refl
    none false o = refl

-- a set with a string put in that it lacked has one string more
pub len_put : (m : Strings) (x : List ℕ) → has m x ≡ false → len (insert m x tt) ≡ len m + 1
len_put m x lacks = len-insert nat_list_cmp_total m x tt ∙ cond-false _ _ _ lacks

-- a set that has a string has a length of at least one
some_len : (m : Strings) (x : List ℕ) → has m x ≡ true → 1 ≤ len m
some_len m x there = by_len (len m) refl
  where
    by_len : (n : ℕ) → len m ≡ n → 1 ≤ n
    by_len zero is = let none : has m x ≡ false = ap (λ s. has s x) (empty_of_len m is) ∙ has_empty x in absurd cc
    by_len (suc n) is = omega arith

-- a set with a string taken out that it had has one string fewer
pub len_taken : (m : Strings) (x : List ℕ) → has m x ≡ true → len (remove m x) + 1 ≡ len m
len_taken m x there = let less : len (remove m x) ≡ len m - 1 = len-remove nat_list_cmp_total m x ∙ cond-true _ _ _ there in omega (arith, less, some_len m x there)

-- the list with a string put in, and with one taken out
pub put_is : (old new : List (List ℕ)) (x : List ℕ) → ((q : List ℕ) → among q new ≡ cond (tied q x) true (among q old)) → set_of new ≡ insert (set_of old) x tt
put_is old new x h = sets_alike _ _ (λ q. has_among new q ∙ h q ∙ ap (cond (tied q x) true) (sym (has_among old q)) ∙ sym (has_put (set_of old) x q))

-- a list in which the strings of another stand, but not x, makes the set of the other without x
pub taken_is : (old new : List (List ℕ)) (x : List ℕ) → ((q : List ℕ) → among q new ≡ cond (tied q x) false (among q old)) → set_of new ≡ remove (set_of old) x
taken_is old new x h = sets_alike _ _ (λ q. has_among new q ∙ h q ∙ ap (cond (tied q x) false) (sym (has_among old q)) ∙ sym (has_taken (set_of old) x q))

-- a string stands in two lists put together where it stands in one of them
pub among_append : (q : List ℕ) (xs ys : List (List ℕ)) → among q (xs ++ ys) ≡ cond (among q xs) true (among q ys)
among_append q [] ys = refl
among_append q (x ∷ xs) ys = ap (cond (tied q x) true) (among_append q xs ys) ∙ twice (tied q x) (among q xs) (among q ys)
  where
    twice : (t a b : Bool) → cond t true (cond a true b) ≡ cond (cond t true a) true b
    twice true a b = refl
    twice false a b = refl

-- in a list with x inserted at an index stand x and what stood in the list before
among_inserted : (q : List ℕ) (xs : List (List ℕ)) (i : ℕ) (x : List ℕ) → among q (inserted xs i x) ≡ cond (tied q x) true (among q xs)
among_inserted q xs i x =
    among_append q (take i xs) (x ∷ drop i xs)
    ∙ swap (among q (take i xs)) (tied q x) (among q (drop i xs))
    ∙ ap (cond (tied q x) true) (sym (among_append q (take i xs) (drop i xs)) ∙ ap (among q) (take-append-drop i xs))
  where
    swap : (a t b : Bool) → cond a true (cond t true b) ≡ cond t true (cond a true b)
    swap true true b = refl
    swap true false b = refl
    swap false true b = refl
    swap false false b = refl

-- a list with x inserted at an index makes the set with x put in
pub set_inserted : (xs : List (List ℕ)) (i : ℕ) (x : List ℕ) → set_of (inserted xs i x) ≡ insert (set_of xs) x tt
set_inserted xs i x = put_is xs (inserted xs i x) x (λ q. among_inserted q xs i x)

-- a list with x at its end makes the set with x put in
pub set_push : (xs : List (List ℕ)) (x : List ℕ) → set_of (xs ++ x ∷ []) ≡ insert (set_of xs) x tt
set_push xs x = put_is xs (xs ++ x ∷ []) x (λ q. among_append q xs (x ∷ []) ∙ swap (among q xs) (tied q x))
  where
    swap : (a t : Bool) → cond a true (cond t true false) ≡ cond t true a
    swap true true = refl
    swap true false = refl
    swap false true = refl
    swap false false = refl

-- a list with x in front makes the set with x put in
pub set_cons : (x : List ℕ) (xs : List (List ℕ)) → set_of (x ∷ xs) ≡ insert (set_of xs) x tt
set_cons x xs = put_is xs (x ∷ xs) x (λ q. refl)

-- the empty list makes the empty set
pub set_nil : set_of [] ≡ empty
set_nil = sets_alike _ _ (λ q. has_among [] q ∙ sym (has_empty q))

-- ---- no string stands twice

-- a list in which no string stands twice stays so with a string in front that it lacked
pub once_cons : (x : List ℕ) (xs : List (List ℕ)) → among x xs ≡ false → IsOnce xs → IsOnce (x ∷ xs)
once_cons x xs lacks once = ap len (set_cons x xs) ∙ len_put (set_of xs) x (has_among xs x ∙ lacks) ∙ omega (arith, once)

-- a list one longer, whose set has a new string too, has no string twice where the shorter one has none
once_from : (xs ys : List (List ℕ)) (x : List ℕ) → IsOnce xs → among x xs ≡ false → set_of ys ≡ insert (set_of xs) x tt → length ys ≡ length xs + 1 → IsOnce ys
once_from xs ys x once lacks is more = ap len is ∙ len_put (set_of xs) x (has_among xs x ∙ lacks) ∙ omega (arith, once, more)

-- no string stands twice in the empty list
pub once_nil : IsOnce []
once_nil = ap len set_nil ∙ len-empty (slice_cmp nat_cmp) (Unit {0})

-- a list in which no string stands twice stays so with a string at its end that it lacked
pub once_push : (xs : List (List ℕ)) (x : List ℕ) → IsOnce xs → has (set_of xs) x ≡ false → IsOnce (xs ++ x ∷ [])
once_push xs x once lacks = once_from xs (xs ++ x ∷ []) x once (sym (has_among xs x) ∙ lacks) (set_push xs x) (omega (arith, length-append xs (x ∷ [])))

-- the set of a list has at most as many strings as the list is long
len_le : (xs : List (List ℕ)) → len (set_of xs) ≤ length xs
len_le [] = omega (arith, once_nil)
len_le (x ∷ xs) = elim (cases_Bool (has (set_of xs) x)) [
  | inl there ↦ let same : len (set_of (x ∷ xs)) ≡ len (set_of xs) = ap len (set_cons x xs) ∙ len-insert nat_list_cmp_total (set_of xs) x tt ∙ cond-true _ _ _ there in omega (arith, same, len_le xs)
  | inr lacks ↦ let more : len (set_of (x ∷ xs)) ≡ len (set_of xs) + 1 = ap len (set_cons x xs) ∙ len_put (set_of xs) x lacks in omega (arith, more, len_le xs)
]

-- where no string stands twice in a list, its first one is not behind it, and none stands twice there
pub once_parts : (x : List ℕ) (xs : List (List ℕ)) → IsOnce (x ∷ xs) → (among x xs ≡ false) × IsOnce xs
once_parts x xs once = elim (cases_Bool (has (set_of xs) x)) [
  | inl there ↦ let same : len (set_of (x ∷ xs)) ≡ len (set_of xs) = ap len (set_cons x xs) ∙ len-insert nat_list_cmp_total (set_of xs) x tt
      ∙ cond-true _ _ _ there in absurd (omega (arith, same, len_le xs, once))
  | inr lacks ↦ let more : len (set_of (x ∷ xs)) ≡ len (set_of xs) + 1 = ap len (set_cons x xs) ∙ len_put (set_of xs) x lacks in (sym (has_among xs x) ∙ lacks, omega (arith, more, once))
]

-- a string that is found at an index stands in the list
pub stands_get : (xs : List (List ℕ)) (i : ℕ) (x : List ℕ) → slice_get xs i ≡ Some x → among x xs ≡ true
stands_get [] i x h = cc
stands_get (y ∷ xs) zero x h = cond-true _ _ _ (tied_same x y (let e : x ≡ y = cc in e))
stands_get (y ∷ xs) (suc i) x h = elim (cases_Bool (tied x y)) [ inl t ↦ cond-true _ _ _ t | inr f ↦ cond-false _ _ _ f ∙ stands_get xs i x h ]

-- where none stands twice, in a list without the string at an index stand all but that string
among_removed : (q : List ℕ) (xs : List (List ℕ)) (i : ℕ) (x : List ℕ) → IsOnce xs → slice_get xs i ≡ Some x → among q (removed xs i) ≡ cond (tied q x) false (among q xs)
among_removed q [] i x once is = cc
among_removed q (y ∷ xs) zero x once is =
    let same : y ≡ x = some_same (Some y) y x refl is in
    elim (cases_Bool (tied q x)) [
      | inl t ↦ ap (λ k. among k xs) (tied_true q x t ∙ sym same) ∙ (once_parts y xs once).0 ∙ sym (cond-true _ _ _ t)
      | inr f ↦ sym (cond-false _ _ _ f ∙ ap (λ k. cond (tied q k) true (among q xs)) same ∙ cond-false _ _ _ f)
    ]
  where
    some_same : (o : Option (List ℕ)) (a b : List ℕ) → o ≡ Some a → o ≡ Some b → a ≡ b
    some_same o a b h k = cc
among_removed q (y ∷ xs) (suc i) x once is =
    let parts = once_parts y xs once in
    let rest = among_removed q xs i x parts.1 is in
    elim (cases_Bool (tied q x)) [
      | inl t ↦
          (let out : tied q y ≡ false = tied_other_in_maps q y
          (λ same. elim (cases_Bool (among x xs)) [
            | inl yes' ↦ let never : among y xs ≡ true = ap (λ k. among k xs) (sym same ∙ tied_true q x t) ∙ yes' in absurd (two_ways _ never parts.0)
            | inr lacks
                ↦ absurd (two_ways _ (stands_get xs i x is) lacks)
          ]) in
          cond-false _ _ _ out ∙ rest ∙ cond-true _ _ _ t ∙ sym (cond-true _ _ _ t))
      | inr f ↦ ap (cond (tied q y) true) (rest ∙ cond-false _ _ _ f) ∙ sym (cond-false _ _ _ f)
    ]

-- where none stands twice, a list without the string at an index makes the set without that string
pub set_removed : (xs : List (List ℕ)) (i : ℕ) (x : List ℕ) → IsOnce xs → slice_get xs i ≡ Some x → set_of (removed xs i) ≡ remove (set_of xs) x
set_removed xs i x once is = taken_is xs (removed xs i) x (λ q. among_removed q xs i x once is)

-- the string at an index below the length stands in the list
pub stands_at : (xs : List (List ℕ)) (i : ℕ) → i < length xs → among (get_or xs i []) xs ≡ true
stands_at [] i h = absurd (omega arith)
stands_at (y ∷ xs) zero h = cond-true _ _ _ (tied_same y y refl)
stands_at (y ∷ xs) (suc i) h = elim (cases_Bool (tied (get_or xs i []) y)) [ inl t ↦ cond-true _ _ _ t | inr f ↦ cond-false _ _ _ f ∙ stands_at xs i (omega (arith, h)) ]

-- what stands at an index doesn't stand before it
pub once_before : (xs : List (List ℕ)) (i : ℕ) → IsOnce xs → i < length xs → among (get_or xs i []) (take i xs) ≡ false
once_before [] i once h = absurd (omega arith)
once_before (y ∷ xs) zero once h = refl
once_before (y ∷ xs) (suc i) once h =
    let parts = once_parts y xs once in
    let x : List ℕ = get_or xs i [] in
    elim (cases_Bool (tied x y)) [
      | inl t ↦ absurd (two_ways (among y xs) (ap (λ k. among k xs) (sym (tied_true x y t)) ∙ stands_at xs i (omega (arith, h))) parts.0)
      | inr f ↦ cond-false _ _ _ f ∙ once_before xs i parts.1 (omega (arith, h))
    ]

-- one string more is not the one
pub among_more : (q : List ℕ) (xs : List (List ℕ)) (i : ℕ) → i < length xs → among q (take i xs) ≡ false → (get_or xs i [] ≡ q → ⊥) → among q (take (i + 1) xs) ≡ false
among_more q xs i h out other =
    ap (among q) (take_more xs i [] h)
    ∙ among_append q (take i xs) (get_or xs i [] ∷ [])
    ∙ cond-false _ _ _ out
    ∙ cond-false _ _ _ (tied_other_in_maps q (get_or xs i []) (λ same. other (sym same)))

-- the set of the first i + 1 strings is that of the first i with the string at i put in
pub set_more : (xs : List (List ℕ)) (i : ℕ) → i < length xs → set_of (take (i + 1) xs) ≡ insert (set_of (take i xs)) (get_or xs i []) tt
set_more xs i h = ap set_of (take_more xs i [] h) ∙ set_push (take i xs) (get_or xs i [])

-- what a search for an index says of the set
pub found_has : (o : Option ℕ) (xs : List (List ℕ)) (q : List ℕ) → IfSome o (λ i. slice_get xs i ≡ Some q) → IfNone o (has (set_of xs) q ≡ false) → is_some o ≡ has (set_of xs) q
found_has None xs q found none = sym none
found_has (Some i) xs q found none = sym (has_among xs q ∙ stands_get xs i q found)
