-- Pending entries stay those of consumers.
use Rattle.std.proofs.Common.{◌≡◌, ℕ, Bool, true, false, cond, List, [], ◌∷◌, is_some, Option, Some, None, refl, sym, ap, ◌∙◌, inl, inr}
use Rattle.std.proofs.lemmas.Bool.{cond-true, cond-false, cases_Bool, true≢false}
use Rattle.std.specs.Ordering.{eq_by_cmp, is_eq}
use Rattle.std.specs.Cmp.{tied_itself}
use Rattle.std.specs.FinMap as map
use Rattle.stream_groups.specs.Groups.{Id, Names, Pending, Pendings, id_cmp, name_cmp, AreOwned, placed, again_in, again_with}
use Rattle.stream_groups.proofs.Orders.{name_total, name_same, id_total}
use Rattle.stream_groups.proofs.Maps.{equal}
use Rattle.stream_groups.proofs.Gaps.{put_known}

-- Nothing pending is of anyone.
pub owned_none : (consumers : Names) (pending : Pendings) → pending ≡ map.empty → AreOwned consumers pending
owned_none consumers pending none id entry is = absurd (apart (map.get pending id) entry is (ap (λ p. map.get p id) none ∙ map.get-empty id_cmp id))
  where
    apart : (x : Option Pending) (entry : Pending) → x ≡ Some entry → x ≡ None → ⊥
    apart x entry a b = cc

-- They stay so where a consumer is added.
pub owned_added : (consumers : Names) (pending : Pendings) (name : List ℕ) → AreOwned consumers pending → AreOwned (map.insert consumers name tt) pending
owned_added consumers pending name owned id entry is = ap is_some (map.get-insert name_total consumers name tt entry.consumer)
    ∙ elim (eq_by_cmp name_cmp entry.consumer name) as (λ b. is_some (cond b (Some tt) (map.get consumers entry.consumer)) ≡ true) [
      | true ↦ refl
      | false ↦ owned id entry is
    ]

-- They stay so where an id becomes pending for a consumer.
pub owned_put : (consumers : Names) (pending : Pendings) (id : Id) (e : Pending) → AreOwned consumers pending → map.contains_key consumers e.consumer ≡ true
    → AreOwned consumers (map.insert pending id e)
owned_put consumers pending id e owned known q entry is = by (eq_by_cmp id_cmp q id) (sym (map.get-insert id_total pending id e q) ∙ is)
  where
    same : (x : Pending) → Some e ≡ Some x → e ≡ x
    same x h = cc

    by : (b : Bool) → cond b (Some e) (map.get pending q) ≡ Some entry → map.contains_key consumers entry.consumer ≡ true
    by true h = ap (λ (x : Pending). map.contains_key consumers x.consumer) (sym (same entry h)) ∙ known
    by false h = owned q entry h

-- They stay so where an id is no longer pending.
pub owned_without : (consumers : Names) (pending : Pendings) (id : Id) → AreOwned consumers pending → AreOwned consumers (map.remove pending id)
owned_without consumers pending id owned q entry is = by (eq_by_cmp id_cmp q id) (sym (map.get-remove id_total pending id q) ∙ is)
  where
    by : (b : Bool) → cond b None (map.get pending q) ≡ Some entry → map.contains_key consumers entry.consumer ≡ true
    by true h = cc
    by false h = owned q entry h

-- They stay so where ids become pending for a consumer.
pub owned_placed : (consumers : Names) (pending : Pendings) (ids : List Id) (e : Pending) → AreOwned consumers pending → map.contains_key consumers e.consumer ≡ true
    → AreOwned consumers (placed pending ids e)
owned_placed consumers pending [] e owned known = owned
owned_placed consumers pending (id ∷ ids) e owned known = owned_placed consumers (map.insert pending id e) ids e (owned_put consumers pending id e owned known) known

-- They stay so where an id is handed out anew.
pub owned_again : (consumers : Names) (pending : Pendings) (id : Id) (moment : ℕ) → AreOwned consumers pending → AreOwned consumers (again_in pending id moment)
owned_again consumers pending id moment owned = by (map.get pending id) refl
  where
    by : (o : Option Pending) → map.get pending id ≡ o → AreOwned consumers (again_with pending id moment o)
    by None is = owned
    by (Some e) is = owned_put consumers pending id _ owned (owned id e is)

-- An added consumer is there.
pub added_there : (consumers : Names) (name : List ℕ) → map.contains_key (map.insert consumers name tt) name ≡ true
added_there consumers name = ap is_some (map.get-insert name_total consumers name tt name ∙ cond-true _ _ _ (ap is_eq (tied_itself name_total name)))

-- A name that is there is there as nothing.
there_tt : (o : Option (Unit {0})) → is_some o ≡ true → o ≡ Some tt
there_tt None h = absurd (true≢false (sym h))
there_tt (Some u) h = refl

there_none : (o : Option (Unit {0})) → is_some o ≡ false → o ≡ None
there_none None h = refl
there_none (Some u) h = absurd (true≢false h)

-- To add a consumer that is there changes nothing.
pub added_known : (consumers : Names) (name : List ℕ) → map.contains_key consumers name ≡ true → map.insert consumers name tt ≡ consumers
added_known consumers name h = put_known consumers name (there_tt _ h)

-- To take out a consumer that was new takes back that it was added.
pub dropped_added : (consumers : Names) (name : List ℕ) → map.contains_key consumers name ≡ false → map.remove (map.insert consumers name tt) name ≡ consumers
dropped_added consumers name h = map.same_map name_total name_same _ _ (λ q. map.get-remove name_total (map.insert consumers name tt) name q
    ∙ ap (cond (eq_by_cmp name_cmp q name) None) (map.get-insert name_total consumers name tt q) ∙ elim (cases_Bool (eq_by_cmp name_cmp q name)) [
      | inl same ↦ cond-true _ _ _ same ∙ sym (there_none _ h) ∙ ap (map.get consumers) (sym (name_same q name (equal _ same)))
      | inr other ↦ cond-false _ _ _ other ∙ cond-false _ _ _ other
    ])
