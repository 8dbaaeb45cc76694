-- A map of std as a finite map: each key seen as another, each value as another.
use Rattle.std.specs.Prelude.{List, map}
use Rattle.std.specs.declared.cmp.Ordering.{Ordering}
use Rattle.std.specs.FinMap.{FinMap, from_sorted}

module _ {K X L Y : Type 0} where
  -- the entries, with keys and values as they are seen
  abbrev pub seen_entries : (K → L) → (X → Y) → List (K × X) → List (L × Y)
  seen_entries key value es = map (λ e. (key e.0, value e.1)) es

  -- the finite map of these entries
  unfoldable pub seen : (R : L → L → Ordering) → (K → L) → (X → Y) → List (K × X) → FinMap R Y
  seen R key value es = from_sorted (seen_entries key value es)
