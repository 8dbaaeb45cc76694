-- What stands at keys after one was removed, or another was put.
use Rattle.std.proofs.Common.{◌≡◌, inl, inr, Bool, true, false, cond, ℕ, List, Option, Some, None, refl, sym, ap, ◌∙◌}
use Rattle.std.proofs.lemmas.Bool.{cond-true, cond-false, eq-eqb, ne_eqb, cases_eq, cases_Bool}
use Rattle.std.specs.Ordering.{nat_cmp, eq_by_cmp, is_eq}
use Rattle.std.specs.declared.cmp.Ordering.{Ordering}
use Rattle.std.specs.declared.cmp.Ordering.TheVariants.{Less, Equal, Greater}
use Rattle.std.specs.Cmp.{eq_by_cmp_equiv}
use Rattle.std.specs.Cmp.Lexicographic.{slice_cmp, nat_list_cmp_total}
use Rattle.std.specs.FinMap.{get, insert, get-remove, get-insert, slice_cmp-IsAntisymmetric, nat_cmp-IsAntisymmetric}
use Rattle.std.specs.FinMap as map
use Rattle.plain_world.proofs.Maps.{maps_alike}
use Rattle.blocks.specs.Blocks.{Blocks}
use Rattle.plain_world.specs.Worlds.{World, Database, Entry, look, put, remove}
use Rattle.held.specs.Calls.{AllAt}
use Rattle.held.proofs.Calls.{look_stands}
use Rattle.held.proofs.Timing.{some_none}
use Rattle.keyspace.specs.Databases.{Bases, means}
use Rattle.keyspace.specs.Sound.{IsArranged}
use Rattle.keyspace.specs.Values.{value_of, value_refs, value_own}

-- nothing stands at a key that was removed
pub look_removed : (w : World) (key : List ℕ) → look (remove w key) key ≡ None
look_removed w key =
    ap (λ (base : Database). get base key) (cond-true _ _ _ (eq-eqb w.selected w.selected refl)) ∙ get-remove nat_list_cmp_total (w.bases w.selected) key key
    ∙ cond-true _ _ _ ((eq_by_cmp_equiv nat_list_cmp_total).refl key)

-- a database from whose world a key was removed has no element of it
pub none_stands : (bases new : Bases) (m after : Blocks) (db : ℕ) (key : List ℕ) → IsArranged new after → means db new after ≡ remove (means db bases m) key → AllAt (λ value. ⊥) new after db key
none_stands bases new m after db key arranged means_is at e found bytes =
    some_none (look (means db new after) key) _ (look_stands value_refs value_of value_own new db after arranged key at e found bytes _ refl)
    (ap (λ (w : World). look w key) means_is ∙ look_removed (means db bases m) key)

remove_over : (m : Database) (q : List ℕ) (a : Entry) → map.remove (insert m q a) q ≡ map.remove m q
remove_over m q a =
    maps_alike _ _ (λ k.
    get-remove nat_list_cmp_total (insert m q a) q k ∙ ap (λ (o : Option Entry). cond (eq_by_cmp (slice_cmp nat_cmp) k q) None o) (get-insert nat_list_cmp_total m q a k)
    ∙ shadowed (eq_by_cmp (slice_cmp nat_cmp) k q) None (Some a) (get m k) ∙ sym (get-remove nat_list_cmp_total m q k))
  where
    shadowed : (t : Bool) (x y z : Option Entry) → cond t x (cond t y z) ≡ cond t x z
    shadowed true x y z = refl
    shadowed false x y z = refl

-- what is put at a key and removed leaves what the removal leaves
pub remove_put : (w : World) (key : List ℕ) (e : Entry) → remove (put w key e) key ≡ remove w key
remove_put w key e = λ i. record { bases = λ number. each number i; selected = w.selected }
  where
    each : (number : ℕ) → (remove (put w key e) key).bases number ≡ (remove w key).bases number
    each number = elim (cases_eq number w.selected) [
      | inl here ↦
          cond-true _ _ _ (eq-eqb number w.selected here)
          ∙ ap (λ (base : Database). map.remove base key) (cond-true _ _ _ (eq-eqb w.selected w.selected refl))
          ∙ remove_over (w.bases w.selected) key e
          ∙ sym (cond-true _ _ _ (eq-eqb number w.selected here))
      | inr other ↦ cond-false _ _ _ (ne_eqb number w.selected other) ∙ cond-false _ _ _ (ne_eqb number w.selected other) ∙ sym (cond-false _ _ _ (ne_eqb number w.selected other))
    ]

-- keys that differ don't compare as equal
apart : (q key : List ℕ) → (q ≡ key → ⊥) → eq_by_cmp (slice_cmp nat_cmp) q key ≡ false
apart q key other = elim (cases_Bool (eq_by_cmp (slice_cmp nat_cmp) q key)) [
  | inl same ↦ absurd (other (slice_cmp-IsAntisymmetric nat_cmp-IsAntisymmetric q key (equal (slice_cmp nat_cmp q key) same)))
  | inr differ ↦ differ
]
  where
    equal : (o : Ordering) → is_eq o ≡ true → o ≡ Equal
    equal Less h = cc
    equal Equal h = refl
    equal Greater h = cc

-- what stands at another key stays where something is put, or a key is removed
pub look_put_other : (w : World) (key q : List ℕ) (e : Entry) → (q ≡ key → ⊥) → look (put w key e) q ≡ look w q
look_put_other w key q e other =
    ap (λ (base : Database). get base q) (cond-true _ _ _ (eq-eqb w.selected w.selected refl)) ∙ get-insert nat_list_cmp_total (w.bases w.selected) key e q ∙ cond-false _ _ _ (apart q key other)

pub look_remove_other : (w : World) (key q : List ℕ) → (q ≡ key → ⊥) → look (remove w key) q ≡ look w q
look_remove_other w key q other =
    ap (λ (base : Database). get base q) (cond-true _ _ _ (eq-eqb w.selected w.selected refl)) ∙ get-remove nat_list_cmp_total (w.bases w.selected) key q ∙ cond-false _ _ _ (apart q key other)
