-- The elements that stand under item numbers.
use Rattle.std.specs.Prelude.{◌≡◌, ℕ, List, [], map, Option, None, Some, true, is_some}
use Rattle.std.specs.Ordering.{nat_cmp}
use Rattle.std.specs.Cmp.Lexicographic.{slice_cmp}
use Rattle.std.specs.FinMap.{FinMap, get}

abbrev pub or_empty : Option (List ℕ) → List ℕ
or_empty None = []
or_empty (Some x) = x

-- the elements of these item numbers
abbrev pub elements_of : (ℕ → Option (List ℕ)) → List ℕ → List (List ℕ)
elements_of element_at items = map (λ at. or_empty (element_at at)) items

-- each key of a map is the element of exactly one item number
pub record AreArranged {V : Type 0} (keys : FinMap (slice_cmp nat_cmp) V) (element_at : ℕ → Option (List ℕ)) : Type 0 where
  pub found : (x : List ℕ) → is_some (get keys x) ≡ true → (at : ℕ) × (element_at at ≡ Some x)
  pub member : (at : ℕ) (x : List ℕ) → element_at at ≡ Some x → is_some (get keys x) ≡ true
  pub apart : (at other : ℕ) (x : List ℕ) → element_at at ≡ Some x → element_at other ≡ Some x → at ≡ other
