-- The elements at the ends of a list.
use Rattle.std.proofs.Common.{◌≡◌, suc, ◌+◌, ◌<◌, List, [], ◌∷◌, ◌++◌, length, get_or, drop, drop-cons, add-one, refl, sym, ap}
use Rattle.std.specs.Prelude.{ℕ}
use Rattle.std.proofs.lemmas.List.{append_assoc}
use Rattle.plain_model.specs.ListSteps.{Elements, added}
use Rattle.plain_model.specs.declared.list_command.ListEnd.{ListEnd}
use Rattle.plain_model.specs.declared.list_command.ListEnd.TheVariants.{Head, Tail}

pub nothing : (xs : Elements) → xs ++ [] ≡ xs
nothing [] = refl
nothing (x ∷ xs) = ap (λ l. x ∷ l) (nothing xs)

-- elements put into a list one after the other
pub added_none : (end : ListEnd) (list : Elements) → added end list [] ≡ list
added_none Head list = refl
added_none Tail list = nothing list

pub added_step : (end : ListEnd) (list : Elements) (word : List ℕ) (words : Elements) → added end (added end list (word ∷ [])) words ≡ added end list (word ∷ words)
added_step Head list word words = refl
added_step Tail list word words = append_assoc list (word ∷ []) words

-- the rest of a list from a place on is the element there and the rest behind it
pub rest_from : {A : Type 0} (xs : List A) (i : ℕ) (x : A) → i < length xs → x ≡ get_or xs i x → drop i xs ≡ x ∷ drop (i + 1) xs
rest_from {A = A} xs i x within is = rw (add-one, drop-cons xs i x) (ap (λ (z : A). z ∷ drop (suc i) xs) (sym is))
