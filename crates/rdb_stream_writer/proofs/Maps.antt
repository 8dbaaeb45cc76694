-- Finite maps that are made entry by entry.
use Rattle.std.proofs.Common.{◌≡◌, Bool, true, false, cond, not, List, [], ◌∷◌, Option, Some, None, is_some, inl, inr, refl, sym, ap, ◌∙◌}
use Rattle.std.specs.Prelude.{T}
use Rattle.std.specs.List.{filter, AllByRecursion}
use Rattle.std.specs.declared.cmp.Ordering.{Ordering}
use Rattle.std.specs.Ordering.{is_eq, is_lt, eq_by_cmp, ordering_reverse}
use Rattle.std.specs.Cmp.{IsTotalOrder, tied_itself}
use Rattle.std.specs.FinMap.{FinMap, IsAntisymmetric, empty, entries, entries_sorted, find, get, get-empty, get-entries, get-insert, get-remove, insert, remove, is_sorted, same_map}
use Rattle.std.specs.FinMap.Entries.{below_all}
use Rattle.std.proofs.lemmas.Bool.{cases_Bool, cond-true, cond-false}
use Rattle.std.proofs.lemmas.Option.{same_Some}
use Rattle.stream_groups.proofs.Maps.{first, second, both, equal, less, find_below}

turned : (a b c : Bool) → cond c true (cond a true b) ≡ cond (cond a true c) true b
turned true b true = refl
turned true b false = refl
turned false b c = refl

shared : {A : Type 0} (b : Bool) (x : A) (found : Option A) → is_some (cond b (Some x) found) ≡ cond b true (is_some found)
shared true x found = refl
shared false x found = refl

-- ---- keys that were taken

module _ {K : Type 0} (R : K → K → Ordering) where
  -- this key, and those that were taken before
  abbrev pub taking : K → (K → Bool) → K → Bool
  taking k taken q = cond (eq_by_cmp R q k) true (taken q)

  -- the keys of these entries, and those that were taken before
  abbrev pub taking_all : {X : Type 0} → List (K × X) → (K → Bool) → K → Bool
  taking_all [] taken = taken
  taking_all (e ∷ es) taken = taking_all es (taking (e.0) taken)

abbrev pub AreFree : {K X : Type 0} → (K → Bool) → List (K × X) → Type 0
AreFree taken es = AllByRecursion (λ e. taken (e.0) ≡ false) es

pub none_taken : {K X : Type 0} (es : List (K × X)) → AreFree (λ q. false) es
none_taken [] = tt
none_taken (e ∷ es) = (refl, none_taken es)

other_key : {K : Type 0} {R : K → K → Ordering} → IsTotalOrder R → (x k : K) → T (is_lt (R x k)) → eq_by_cmp R k x ≡ false
other_key {R = R} o x k h = ap is_eq (o.antisymm k x ∙ ap ordering_reverse (less _ h))

module _ {K X : Type 0} {R : K → K → Ordering} (o : IsTotalOrder R) where
  -- ---- entries in the order of their keys

  found_behind : (x : K × X) (es all : List (K × X)) → T (below_all R x.0 es) → AllByRecursion (λ e. find R e.0 all ≡ Some e.1) es → AllByRecursion (λ e. find R e.0 (x ∷ all) ≡ Some e.1) es
  found_behind x [] all low h = tt
  found_behind x (e ∷ es) all low h = (cond-false _ _ _ (other_key o x.0 e.0 (first _ _ low)) ∙ h.0, found_behind x es all (second _ _ low) h.1)

  found_all : (es : List (K × X)) → T (is_sorted R es) → AllByRecursion (λ e. find R e.0 es ≡ Some e.1) es
  found_all [] h = tt
  found_all (e ∷ es) h = (cond-true _ _ _ (ap is_eq (tied_itself o e.0)), found_behind e es es (first _ _ h) (found_all es (second _ _ h)))

  as_got : (m : FinMap R X) (es : List (K × X)) → AllByRecursion (λ e. find R e.0 (entries m) ≡ Some e.1) es → AllByRecursion (λ e. get m e.0 ≡ Some e.1) es
  as_got m [] h = tt
  as_got m (e ∷ es) h = (get-entries m e.0 ∙ h.0, as_got m es h.1)

  -- each entry of a map is what it has at its key
  pub each_got : (m : FinMap R X) → AllByRecursion (λ e. get m e.0 ≡ Some e.1) (entries m)
  each_got m = as_got m (entries m) (found_all (entries m) (entries_sorted m))

  below_filter : (x : K) (test : K × X → Bool) (es : List (K × X)) → T (below_all R x es) → T (below_all R x (filter test es))
  below_filter x test [] h = tt
  below_filter x test (e ∷ es) h =
      elim (test e) as (λ b. T (below_all R x (cond b (e ∷ filter test es) (filter test es)))) [ true ↦ both _ _ (first _ _ h) (below_filter x test es (second _ _ h)) | false ↦ below_filter x test es (second _ _ h) ]

  -- some of the entries stand in the same order
  pub sorted_filter : (test : K × X → Bool) (es : List (K × X)) → T (is_sorted R es) → T (is_sorted R (filter test es))
  sorted_filter test [] h = tt
  sorted_filter test (e ∷ es) h =
      elim (test e) as (λ b. T (is_sorted R (cond b (e ∷ filter test es) (filter test es)))) [
        | true ↦ both _ _ (below_filter e.0 test es (first _ _ h)) (sorted_filter test es (second _ _ h))
        | false ↦ sorted_filter test es (second _ _ h)
      ]

  pub still_free : (e : K × X) (es : List (K × X)) (taken : K → Bool) → T (below_all R e.0 es) → AreFree taken es → AreFree (taking R e.0 taken) es
  still_free e [] taken low h = tt
  still_free e (f ∷ es) taken low h = (cond-false _ _ _ (other_key o e.0 f.0 (first _ _ low)) ∙ h.0, still_free e es taken (second _ _ low) h.1)

  -- a key is taken where it was, and where an entry has it
  pub taken_is : (es : List (K × X)) (taken : K → Bool) (q : K) → taking_all R es taken q ≡ cond (is_some (find R q es)) true (taken q)
  taken_is [] taken q = refl
  taken_is (e ∷ es) taken q =
      taken_is es (taking R e.0 taken) q ∙ turned (eq_by_cmp R q e.0) (taken q) (is_some (find R q es)) ∙ ap (λ b. cond b true (taken q)) (sym (shared (eq_by_cmp R q e.0) e.1 (find R q es)))

  -- whether some entry of a key passes a test
  pub found_filter : (test : K × X → Bool) (es : List (K × X)) (q : K) (x : X) → IsAntisymmetric R → T (is_sorted R es) → find R q es ≡ Some x → is_some (find R q (filter test es)) ≡ test (q, x)
  found_filter test [] q x same h is = absurd cc
  found_filter test (e ∷ es) q x same h is = elim (cases_Bool (eq_by_cmp R q e.0)) [
    | inl t ↦
        let key : q ≡ e.0 = same q e.0 (equal _ t) in
        let value : e.1 ≡ x = same_Some e.1 x (sym (cond-true _ _ _ t) ∙ is) in
        let one : test e ≡ test (q, x) = λ i. test (sym key i, value i) in
        elim (cases_Bool (test e)) [
          | inl p ↦ ap (λ b. is_some (find R q (cond b (e ∷ filter test es) (filter test es)))) p ∙ ap is_some (cond-true _ _ _ t) ∙ sym p ∙ one
          | inr n ↦ ap (λ b. is_some (find R q (cond b (e ∷ filter test es) (filter test es)))) n ∙ ap is_some (find_below o q e.0 (filter test es) (equal _ t) (below_filter e.0 test es (first _ _ h)))
              ∙ sym n ∙ one
        ]
    | inr f ↦
        let rest : is_some (find R q (filter test es)) ≡ test (q, x) = found_filter test es q x same (second _ _ h) (sym (cond-false _ _ _ f) ∙ is) in
        elim (cases_Bool (test e)) [
          | inl p ↦ ap (λ b. is_some (find R q (cond b (e ∷ filter test es) (filter test es)))) p ∙ ap is_some (cond-false _ _ _ f) ∙ rest
          | inr n ↦ ap (λ b. is_some (find R q (cond b (e ∷ filter test es) (filter test es)))) n ∙ rest
        ]
  ]

-- ---- a map that has what was taken

-- the map has at the keys that were taken what the function says, and nothing elsewhere
abbrev pub Shows : {K X : Type 0} {R : K → K → Ordering} → (K → Option X) → (K → Bool) → FinMap R X → Type 0
Shows {K = K} what taken m = (q : K) → get m q ≡ cond (taken q) (what q) None

module _ {K X : Type 0} {R : K → K → Ordering} (o : IsTotalOrder R) (same : IsAntisymmetric R) where
  pub shows_nothing : (what : K → Option X) → Shows what (λ q. false) (empty {X = X} {R = R})
  shows_nothing what q = get-empty R q

  pub shows_more : (what : K → Option X) (taken : K → Bool) (m : FinMap R X) (k : K) (x : X) → Shows what taken m → what k ≡ Some x → Shows what (taking R k taken) (insert m k x)
  shows_more what taken m k x h is q = get-insert o m k x q ∙ elim (cases_Bool (eq_by_cmp R q k)) [
    | inl t ↦ cond-true _ _ _ t ∙ sym (ap (λ b. cond b (what q) None) (cond-true _ _ _ t) ∙ ap what (same q k (equal _ t)) ∙ is)
    | inr f ↦ cond-false _ _ _ f ∙ h q ∙ sym (ap (λ b. cond b (what q) None) (cond-false _ _ _ f))
  ]

  pub shows_less : (what : K → Option X) (taken : K → Bool) (m : FinMap R X) (k : K) → Shows what (λ q. not (taken q)) m → Shows what (λ q. not (taking R k taken q)) (remove m k)
  shows_less what taken m k h q = get-remove o m k q ∙ elim (cases_Bool (eq_by_cmp R q k)) [
    | inl t ↦ cond-true _ _ _ t ∙ sym (ap (λ b. cond (not b) (what q) None) (cond-true _ _ _ t))
    | inr f ↦ cond-false _ _ _ f ∙ h q ∙ sym (ap (λ b. cond (not b) (what q) None) (cond-false _ _ _ f))
  ]

  by_found : (found : Option X) (a b : Bool) → ((x : X) → found ≡ Some x → a ≡ b) → cond a found None ≡ cond b found None
  by_found None true true is = refl
  by_found None true false is = refl
  by_found None false true is = refl
  by_found None false false is = refl
  by_found (Some x) a b is = ap (λ c. cond c (Some x) None) (is x refl)

  -- what was taken matters only where the function says something
  pub shows_alike : (what : K → Option X) (taken other : K → Bool) (m : FinMap R X) → ((q : K) (x : X) → what q ≡ Some x → taken q ≡ other q) → Shows what taken m → Shows what other m
  shows_alike what taken other m alike h q = h q ∙ by_found (what q) (taken q) (other q) (alike q)

  -- all was taken, so the map is the other one
  pub shows_all : (m n : FinMap R X) → Shows (get n) (λ q. true) m → m ≡ n
  shows_all m n h = same_map o same m n h

  pub shows_none : (what : K → Option X) (m : FinMap R X) → Shows what (λ q. false) m → m ≡ empty
  shows_none what m h = same_map o same m empty (λ q. h q ∙ sym (get-empty R q))

  pub not_there : (what : K → Option X) (taken : K → Bool) (m : FinMap R X) (k : K) → Shows what taken m → taken k ≡ false → get m k ≡ None
  not_there what taken m k h free = h k ∙ cond-false _ _ _ free

  pub is_there : (what : K → Option X) (taken : K → Bool) (m : FinMap R X) (k : K) → Shows what taken m → taken k ≡ true → get m k ≡ what k
  is_there what taken m k h free = h k ∙ cond-true _ _ _ free
