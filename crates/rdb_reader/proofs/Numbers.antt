-- Numbers of an intset, as texts.
use Rattle.std.proofs.Common.{◌≡◌, inl, inr, ℕ, ◌<◌, List, [], Option, Some, None, length, map, get_or, sym, ap, ◌∙◌, arith}
use Rattle.std.specs.Prelude.{ℤ, slice_get}
use Rattle.std.proofs.lemmas.List.{length-map, get_or-map}
use Rattle.std.proofs.lemmas.Option.{slice_get_cases}
use Rattle.int_text.specs.Decimal.{canonical}

-- something, and not nothing
abbrev some : ℤ → Option ℤ
some n = Some n

some_is : (x y : ℤ) → some x ≡ some y → x ≡ y
some_is x y e = cc

not_none : (x : ℤ) → some x ≡ None → ⊥
not_none x e = absurd cc

-- the text of a number that stands at a place
pub number_there : (numbers : List ℤ) (i : ℕ) (n : ℤ) → slice_get numbers i ≡ Some n → (i < length (map canonical numbers)) × (get_or (map canonical numbers) i [] ≡ canonical n)
number_there numbers i n is =
    elim (slice_get_cases numbers i).1 [
      | inl s ↦
          let same : s.0 ≡ n = some_is s.0 n (sym s.2 ∙ is) in
          (omega (arith, s.1, length-map numbers canonical), get_or-map canonical numbers i s.0 [] s.1 ∙ ap canonical (s.3 ∙ same))
      | inr s ↦ absurd (not_none n (sym is ∙ s.1))
    ]
