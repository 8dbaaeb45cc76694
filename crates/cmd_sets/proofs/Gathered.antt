-- Names that are gathered.
use Rattle.std.proofs.Common.{◌≡◌, ◌<◌, ◌+◌, ℕ, Bool, true, false, cond, not, List, [], ◌∷◌, ◌++◌, length, take, get_or, Result, Ok, Err, IfOk, refl, sym, ap, ◌∙◌}
use Rattle.std.specs.Prelude.{◌&&◌, ◌||◌, OnOk}
use Rattle.std.specs.List.{filter}
use Rattle.std.proofs.lemmas.Bool.{cond-true, cond-false}
use Rattle.std.proofs.lemmas.List.{take_more}

-- ---- truth values

pub or_false : (a : Bool) → (a || false) ≡ a
or_false true = refl
or_false false = refl

pub and_not_false : (a : Bool) → (a && not false) ≡ a
and_not_false true = refl
and_not_false false = refl

-- ---- results

pub if_as : {A E : Type 0} {P Q : A → Type 0} (r : Result A E) → ((x : A) → P x → Q x) → IfOk r P → IfOk r Q
if_as (Ok x) f p = f x p
if_as (Err e) f p = tt

pub ok_as : {A E P Q : Type 0} (r : Result A E) → (P → Q) → OnOk r P → OnOk r Q
ok_as (Ok x) f p = f p
ok_as (Err e) f p = tt

-- ---- the members of a set, one after the other

pub one_name : (list : List (List ℕ)) (k : ℕ) (names new : List (List ℕ)) (name : List ℕ) → k < length list → names ≡ take k list → name ≡ get_or list k [] → new ≡ names ++ name ∷ []
    → new ≡ take (k + 1) list
one_name list k names new name inside so_far is pushed =
    pushed ∙ ap (λ l. l ++ name ∷ []) so_far ∙ ap (λ x. take k list ++ x ∷ []) is ∙ sym (take_more list k [] inside)

-- ---- names that pass a test, one after the other

module _ (test : List ℕ → Bool) (x : List ℕ) where
  passing_last : (list : List (List ℕ)) → test x ≡ true → filter test (list ++ x ∷ []) ≡ filter test list ++ x ∷ []
  passing_last [] passes = cond-true _ _ _ passes
  passing_last (y ∷ list) passes = by_test (test y) (filter test (list ++ x ∷ [])) (filter test list) (passing_last list passes)
    where
      by_test : (t : Bool) (more less : List (List ℕ)) → more ≡ less ++ x ∷ [] → cond t (y ∷ more) more ≡ cond t (y ∷ less) less ++ x ∷ []
      by_test true more less e = ap (λ l. y ∷ l) e
      by_test false more less e = e

  failing_last : (list : List (List ℕ)) → test x ≡ false → filter test (list ++ x ∷ []) ≡ filter test list
  failing_last [] fails = cond-false _ _ _ fails
  failing_last (y ∷ list) fails = ap (λ (l : List (List ℕ)). cond (test y) (y ∷ l) l) (failing_last list fails)

  -- one that passes is kept
  pub kept_one : (list kept new : List (List ℕ)) → kept ≡ filter test list → new ≡ kept ++ x ∷ [] → test x ≡ true → new ≡ filter test (list ++ x ∷ [])
  kept_one list kept new so_far pushed passes = pushed ∙ ap (λ l. l ++ x ∷ []) so_far ∙ sym (passing_last list passes)

  -- and one that doesn't is not
  pub left_one : (list kept : List (List ℕ)) → kept ≡ filter test list → test x ≡ false → kept ≡ filter test (list ++ x ∷ [])
  left_one list kept so_far fails = so_far ∙ sym (failing_last list fails)
