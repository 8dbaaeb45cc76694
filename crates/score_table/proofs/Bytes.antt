-- Maps from byte strings: when two are the same, and a look at a key that was put in.
use Rattle.std.proofs.Common.{◌≡◌, ◌≢◌, ◌⊎◌, inl, inr, ℕ, ℤ, List, true, false, Some, refl, sym, ap, ◌∙◌}
use Rattle.std.specs.declared.cmp.Ordering.{Ordering}
use Rattle.std.specs.declared.cmp.Ordering.TheVariants.{Less, Equal, Greater}
use Rattle.std.specs.Ordering.{nat_cmp, eq_by_cmp, is_eq}
use Rattle.std.specs.Cmp.{eq_by_cmp_equiv}
use Rattle.std.specs.Cmp.Lexicographic.{slice_cmp, nat_list_cmp_total}
use Rattle.std.specs.FinMap.{get, insert, get-insert, same_map, slice_cmp-IsAntisymmetric, nat_cmp-IsAntisymmetric}
use Rattle.std.proofs.lemmas.Bool.{cases_Bool, cond-true, cond-false}
use Rattle.score_table.specs.Ranking.{ScoreMap}

pub maps_alike : (m n : ScoreMap) → ((q : List ℕ) → get m q ≡ get n q) → m ≡ n
maps_alike = same_map nat_list_cmp_total (slice_cmp-IsAntisymmetric nat_cmp-IsAntisymmetric)

-- a key is the one that was put in, or another
pub cases_put : (map : ScoreMap) (k : List ℕ) (v : ℤ) (q : List ℕ) → ((q ≡ k) × (get (insert map k v) q ≡ Some v)) ⊎ ((q ≢ k) × (get (insert map k v) q ≡ get map q))
cases_put map k v q = elim (cases_Bool (eq_by_cmp (slice_cmp nat_cmp) q k)) [
  | inl tied ↦ inl (slice_cmp-IsAntisymmetric nat_cmp-IsAntisymmetric q k (equal (slice_cmp nat_cmp q k) tied), get-insert nat_list_cmp_total map k v q ∙ cond-true _ _ _ tied)
  | inr other ↦ inr (apart other, get-insert nat_list_cmp_total map k v q ∙ cond-false _ _ _ other)
]
  where
    equal : (o : Ordering) → is_eq o ≡ true → o ≡ Equal
    equal Less h = cc
    equal Equal h = refl
    equal Greater h = cc

    apart : eq_by_cmp (slice_cmp nat_cmp) q k ≡ false → q ≢ k
    apart other same = never (sym (itself ∙ ap (eq_by_cmp (slice_cmp nat_cmp) q) same) ∙ refl) other
      where
        itself : true ≡ eq_by_cmp (slice_cmp nat_cmp) q q
        itself = sym ((eq_by_cmp_equiv nat_list_cmp_total).refl q)

        never : eq_by_cmp (slice_cmp nat_cmp) q k ≡ true → eq_by_cmp (slice_cmp nat_cmp) q k ≡ false → ⊥
        never h g = cc

-- the same value is put at a key that has it
pub insert_same : (map : ScoreMap) (q : List ℕ) (v : ℤ) → get map q ≡ Some v → insert map q v ≡ map
insert_same map q v has = maps_alike _ _ (λ p. elim (cases_put map q v p) [
  | inl here ↦ here.1 ∙ sym has ∙ ap (get map) (sym here.0)
  | inr other ↦ other.1
])
