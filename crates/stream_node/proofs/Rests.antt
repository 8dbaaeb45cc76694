-- Elements one behind the other.
use Rattle.std.proofs.Common.{◌≡◌, ℕ, ◌+◌, ◌-◌, ◌<◌, ◌≤◌, ◌^◌, List, [], ◌∷◌, length, drop, get_or, Option, Some, None, Result, Ok, Err, subst, sym, ap, ◌∙◌, arith, pos, negsuc}
use Rattle.std.specs.Prelude.{ℤ, IfSome, IfNone, IfErr, IsErrAnd, FitsSigned, true}
use lib.Signed.{lt_z}
use Rattle.std.specs.Int.{w64}
use Rattle.std.proofs.lemmas.Bool.Decides.{Decides-ltb}
use Rattle.std.proofs.lemmas.List.{drop_more, drop-drop}
use Rattle.int_text.specs.Decimal.{canonical}
use Rattle.int_text.proofs.Signed.{canonical_injective}
use Rattle.stream_node.specs.Entry.{number}
use Rattle.stream_node.proofs.Lists.{Texts, first}
use Rattle.stream_node.proofs.Same.{fits_count, same_number}

-- a fact that holds anyway
pub when_none : {A : Type 0} {P : Type 0} (o : Option A) → P → IfNone o P
when_none None p = p
when_none (Some a) p = tt

-- nothing is said of none
pub no_some : {A : Type 0} (P : A → Type 0) (o : Option A) → o ≡ None → IfSome o P
no_some P None e = tt
no_some P (Some a) e = absurd cc

-- what holds of the error that `?` hands on
pub when_err : {A E : Type 0} (r : Result A E) (e : E) (Q : E → Type 0) → IsErrAnd r (λ x. x ≡ e) → Q e → IfErr r Q
when_err (Ok a) e Q is q = tt
when_err (Err x) e Q is q = subst Q (sym is) q

-- the list from a place on, where so many are left
pub from_place : (list : Texts) (left : ℕ) (x : List ℕ) → left ≤ length list → length list - left < length list → x ≡ get_or list (length list - left) []
    → drop (length list - left) list ≡ x ∷ drop (length list - (left - 1)) list
from_place list left x few inside same =
    let i : ℕ = length list - left in
    let next : i + 1 ≡ length list - (left - 1) = omega arith in
    drop_more list i [] inside ∙ ap (λ (y : List ℕ). y ∷ drop (i + 1) list) (sym same) ∙ ap (λ (k : ℕ). x ∷ drop k list) next

-- one element less
pub drop_one_more : (list rest behind : Texts) (x : List ℕ) (k : ℕ) → rest ≡ drop k list → rest ≡ x ∷ behind → behind ≡ drop (k + 1) list
drop_one_more list rest behind x k e f = ap (drop 1) (sym f ∙ e) ∙ drop-drop 1 k list

-- a negative number is no count
pub no_count : (list rest : Texts) (z : ℤ) → FitsSigned w64 z → lt_z z (pos 0) ≡ true → list ≡ canonical z ∷ rest → (n : ℕ) (more : Texts) → n < 2 ^ 63 → list ≡ number n ∷ more → ⊥
no_count list rest (pos z) fits below e n more small f = absurd (omega (arith, (Decides-ltb z 0).0 below))
no_count list rest (negsuc z) fits below e n more small f =
    let same : negsuc z ≡ pos n = canonical_injective (negsuc z) (pos n) fits (fits_count n small) (ap first (sym e ∙ f)) in
    cc

-- no number, so no count
pub no_number : (list : Texts) → ((z : ℤ) (more : Texts) → FitsSigned w64 z → list ≡ canonical z ∷ more → ⊥) → (n : ℕ) (more : Texts) → n < 2 ^ 63 → list ≡ number n ∷ more → ⊥
no_number list none n more small e = none (pos n) more (fits_count n small) e

-- another number than the one that is due
pub another_number : (list rest : Texts) (n due : ℕ) → n < 2 ^ 63 → due < 2 ^ 63 → list ≡ number n ∷ rest → (n ≡ due → ⊥) → (more : Texts) → list ≡ number due ∷ more → ⊥
another_number list rest n due n_fits due_fits e differ more f = differ (same_number n due n_fits due_fits (ap first (sym e ∙ f)))
