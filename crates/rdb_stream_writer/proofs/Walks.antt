-- A walk along a list that goes on behind the key of the last one seen.
use Rattle.std.proofs.Common.{◌≡◌, ◌<◌, Bool, true, false, List, [], ◌∷◌, ◌++◌, length, drop, Option, Some, None, refl, sym, ap, subst, ◌∙◌, append_assoc, arith}
use Rattle.std.proofs.lemmas.List.{append-nil}
use Rattle.std.specs.Prelude.{slice_get, T}
use Rattle.std.specs.List.{filter, AllByRecursion}
use Rattle.std.specs.declared.cmp.Ordering.{Ordering}
use Rattle.std.specs.Ordering.{is_lt, ordering_reverse}
use Rattle.std.specs.Cmp.{IsTotalOrder, tied_itself}
use Rattle.std.specs.FinMap.{is_sorted}
use Rattle.std.specs.FinMap.Entries.{below_all}
use Rattle.std.proofs.lemmas.Bool.{cond-true, cond-false}
use Rattle.std.proofs.lemmas.Option.{same_Some}
use Rattle.stream_groups.proofs.Maps.{first, second, less}

-- ---- lists

all_back : {A : Type 0} (P : A → Type 0) (xs : List A) (y : A) (ys : List A) → AllByRecursion P (xs ++ y ∷ ys) → P y
all_back P [] y ys h = h.0
all_back P (x ∷ xs) y ys h = all_back P xs y ys h.1

filter_whole : {A : Type 0} (test : A → Bool) (xs : List A) → AllByRecursion (λ x. test x ≡ true) xs → filter test xs ≡ xs
filter_whole test [] h = refl
filter_whole test (x ∷ xs) h = cond-true _ _ _ h.0 ∙ ap (λ ys. x ∷ ys) (filter_whole test xs h.1)

head_is : {A : Type 0} (xs : List A) (x : A) → slice_get xs 0 ≡ Some x → xs ≡ x ∷ drop 1 xs
head_is [] x is = absurd cc
head_is (y ∷ ys) x is = ap (λ z. z ∷ ys) (same_Some y x is)

none_is : {A : Type 0} (xs : List A) → slice_get xs 0 ≡ None → xs ≡ []
none_is [] is = refl
none_is (x ∷ xs) is = absurd cc

-- ---- the walk

module _ {A K : Type 0} (key : A → K) (above : K → A → Bool) where
  -- all of them, or those above a key
  abbrev pub left : Option K → List A → List A
  left None xs = xs
  left (Some k) xs = filter (above k) xs

  -- each one is above those before it, and none above itself or one behind it
  abbrev pub IsLow : A → List A → Type 0
  IsLow x ys = AllByRecursion (λ y. (above (key x) y ≡ true) × (above (key y) x ≡ false)) ys

  abbrev pub AreRising : List A → Type 0
  AreRising [] = Unit {0}
  AreRising (x ∷ xs) = IsLow x xs × AreRising xs

  all_above : (x : A) (ys : List A) → IsLow x ys → AllByRecursion (λ y. above (key x) y ≡ true) ys
  all_above x [] h = tt
  all_above x (y ∷ ys) h = (h.0.0, all_above x ys h.1)

  -- What is seen so far, of which something holds, and what is left.
  pub record Walked (Holds : List A → Type 0) (xs : List A) (last : Option K) : Type 0 where
    pub before : List A
    pub split : xs ≡ before ++ left last xs
    pub holds : Holds before

  pub walk_begins : (Holds : List A → Type 0) (xs : List A) → Holds [] → Walked Holds xs None
  walk_begins Holds xs h = record { before = []; split = refl; holds = h }

  module _ (not_itself : (x : A) → above (key x) x ≡ false) where
    behind_is : (before : List A) (x : A) (rest : List A) → AreRising (before ++ x ∷ rest) → filter (above (key x)) (before ++ x ∷ rest) ≡ rest
    behind_is [] x rest r = cond-false _ _ _ (not_itself x) ∙ filter_whole (above (key x)) rest (all_above x rest r.0)
    behind_is (y ∷ before) x rest r = cond-false _ _ _ (all_back _ before x rest r.0).1 ∙ behind_is before x rest r.1

    module _ (Holds : List A → Type 0) (xs : List A) (last : Option K) (rising : AreRising xs) (w : Walked Holds xs last) where
      -- one more is seen
      module _ (x : A) (is : slice_get (left last xs) 0 ≡ Some x) where
        rest : List A
        rest = drop 1 (left last xs)

        here : left last xs ≡ x ∷ drop 1 (left last xs)
        here = head_is (left last xs) x is

        whole : xs ≡ w.before ++ x ∷ drop 1 (left last xs)
        whole = w.split ∙ ap (λ ys. w.before ++ ys) here

        now_left : left (Some (key x)) xs ≡ drop 1 (left last xs)
        now_left = ap (filter (above (key x))) whole ∙ behind_is w.before x (drop 1 (left last xs)) (subst AreRising whole rising)

        pub walk_on : (Holds' : List A → Type 0) → (Holds w.before → Holds' (w.before ++ x ∷ [])) → Walked Holds' xs (Some (key x))
        walk_on Holds' step = record {
          before = w.before ++ x ∷ [];
          split = whole ∙ sym (append_assoc w.before (x ∷ []) (drop 1 (left last xs))) ∙ ap (λ ys. (w.before ++ x ∷ []) ++ ys) (sym now_left);
          holds = step w.holds;
        }

        pub walk_shorter : length (left (Some (key x)) xs) < length (left last xs)
        walk_shorter = omega (arith, ap length now_left, ap length here)

      -- all were seen
      pub walk_ends : slice_get (left last xs) 0 ≡ None → Holds xs
      walk_ends none = subst Holds (sym (w.split ∙ ap (λ ys. w.before ++ ys) (none_is (left last xs) none) ∙ append-nil w.before)) w.holds

-- ---- entries in the order of their keys

module _ {K X : Type 0} {R : K → K → Ordering} (o : IsTotalOrder R) where
  abbrev pub is_over : K → K × X → Bool
  is_over k e = is_lt (R k e.0)

  low_entries : (e : K × X) (es : List (K × X)) → T (below_all R e.0 es) → IsLow (λ (x : K × X). x.0) is_over e es
  low_entries e [] h = tt
  low_entries e (f ∷ es) h =
      let is = less _ (first _ _ h) in
      ((ap is_lt is, ap is_lt (o.antisymm f.0 e.0 ∙ ap ordering_reverse is)), low_entries e es (second _ _ h))

  pub entries_rise : (es : List (K × X)) → T (is_sorted R es) → AreRising (λ (x : K × X). x.0) is_over es
  entries_rise [] h = tt
  entries_rise (e ∷ es) h = (low_entries e es (first _ _ h), entries_rise es (second _ _ h))

  pub not_over_itself : (e : K × X) → is_over e.0 e ≡ false
  not_over_itself e = ap is_lt (tied_itself o e.0)
