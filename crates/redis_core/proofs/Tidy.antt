-- A walk that commands don't disturb ends with the least number of slabs.
use Rattle.std.proofs.Common.{◌≡◌, ◌<◌, ℕ, Option, Some, None, refl, sym, ap, ◌∙◌, subst, arith}
use Rattle.blocks.specs.declared.BlockRef.{BlockRef}
use Rattle.blocks.specs.Blocks.{Blocks}
use Rattle.blocks.specs.Slabs.{Heap, Swept}
use Rattle.defrag.specs.Swept.{HasPassed}
use Rattle.defrag.specs.Swept.HasPassed.{of_database, of_item, of_mark}
use Rattle.defrag.specs.declared.walk.Visit.{Visit}
use Rattle.defrag.specs.declared.walk.Visit.TheVariants.{More, Done}
use Rattle.defrag.specs.declared.walk.Walk.{Walk}
use Rattle.held.specs.Databases.{table_at}
use Rattle.held.specs.Table.{item}
use Rattle.held.proofs.Rehashing.{keys_stay}
use Rattle.outside.specs.declared.pacing.Plan.{Plan}
use Rattle.keyspace.specs.Databases.{Bases, Keyspace}
use Rattle.keyspace.specs.Values.{value_refs, value_marks}
use Rattle.redis_core.specs.Walking.{left_open, IsSweptTo, HasLeastSlabs, IsTidy, Opens, WalksOn, Packs}
use Rattle.redis_core.specs.Background.{EngineRests}
use Rattle.redis_core.specs.Walking.Opens.{open_walk, new_walk}
use Rattle.redis_core.specs.Walking.{Packs as packs}
use Rattle.redis_core.specs.Engines.{State, keyspace_of}
use Rattle.redis_core.specs.declared.background.StepsDone.{StepsDone}

-- what a walk has passed depends on the elements alone
passed_same : (m : Blocks) (old new : Bases) (walk : Walk) (r : BlockRef) → ((db : ℕ) → (table_at new db).items ≡ (table_at old db).items)
    → HasPassed (value_refs m) (value_marks m) new walk r → HasPassed (value_refs m) (value_marks m) old walk r
passed_same m old new walk r same (of_database number at e below found isin) = of_database number at e below (sym (at_same number at) ∙ found) isin
  where
    at_same : (number at : ℕ) → item (table_at new number) at ≡ item (table_at old number) at
    at_same number at = ap (λ items. item (record (table_at new number) { items = items }) at) (same number)
passed_same m old new walk r same (of_item at e below found isin) = of_item at e below (sym (at_same walk.database at) ∙ found) isin
  where
    at_same : (number at : ℕ) → item (table_at new number) at ≡ item (table_at old number) at
    at_same number at = ap (λ items. item (record (table_at new number) { items = items }) at) (same number)
passed_same m old new walk r same (of_mark e found before) = of_mark e (sym (at_same walk.database walk.item) ∙ found) before
  where
    at_same : (number at : ℕ) → item (table_at new number) at ≡ item (table_at old number) at
    at_same number at = ap (λ items. item (record (table_at new number) { items = items }) at) (same number)

module _ {S : Type 0} (blocks : S → Blocks) (heap : S → Heap) where
  -- rehash steps leave it
  swept_same : (old new : Keyspace S) (walk : Walk) → new.store ≡ old.store → ((db : ℕ) → (table_at new.bases db).items ≡ (table_at old.bases db).items) → IsSweptTo blocks heap old walk
      → IsSweptTo blocks heap new walk
  swept_same old new walk store same s =
      subst (λ (x : S). Swept (heap x) (HasPassed (value_refs (blocks x)) (value_marks (blocks x)) new.bases walk)) (sym store)
      (record { passing = s.passing; kept = s.kept; calm = λ r passed. s.calm r (passed_same (blocks old.store) old.bases new.bases walk r same passed) })

  tidy_same : (old new : Keyspace S) (walk : Option Walk) → new.store ≡ old.store → ((db : ℕ) → (table_at new.bases db).items ≡ (table_at old.bases db).items) → IsTidy blocks heap old walk
      → IsTidy blocks heap new walk
  tidy_same old new None store same t = tt
  tidy_same old new (Some walk) store same t = swept_same old new walk store same t

  opens_swept : (old mid : Keyspace S) (before : Option Walk) (from : Walk) → Opens blocks heap old mid before from → IsTidy blocks heap old before → IsSweptTo blocks heap mid from
  opens_swept old mid _ _ (open_walk walk same) t = subst (λ (k : Keyspace S). IsSweptTo blocks heap k walk) (sym same) t
  opens_swept old mid _ _ (new_walk bases store begun swept) t = swept

  left_tidy : (new : Keyspace S) (visit : Visit) (to : Walk) → (visit ≡ More → IsSweptTo blocks heap new to) → IsTidy blocks heap new (left_open visit to)
  left_tidy new More to s = s refl
  left_tidy new Done to s = tt

  left_done : (visit : Visit) (to : Walk) → left_open visit to ≡ None → visit ≡ Done
  left_done More to none = cc
  left_done Done to none = refl

  pub step_tidy : (old new : Keyspace S) (before after : Option Walk) → WalksOn blocks heap old new before after → IsTidy blocks heap old before → IsTidy blocks heap new after
  step_tidy old new before after w t =
      let swept = opens_swept old w.mid before w.from w.opens t in
      subst (IsTidy blocks heap new) (sym w.left) (left_tidy new w.visit w.to (λ is. w.swept is swept))

  pub step_least : (old new : Keyspace S) (before after : Option Walk) → WalksOn blocks heap old new before after → IsTidy blocks heap old before → after ≡ None → HasLeastSlabs blocks heap new
  step_least old new before after w t none = w.least (left_done w.visit w.to (sym w.left ∙ none)) (opens_swept old w.mid before w.from w.opens t)

  packs_tidy : (old : Keyspace S) (before : Option Walk) (steps : ℕ) (new : Keyspace S) (after : Option Walk) → Packs blocks heap old before steps new after → IsTidy blocks heap old before
      → IsTidy blocks heap new after
  packs_tidy old before _ _ _ packs.start t = t
  packs_tidy old before _ _ _ (packs.more steps mid new walk after p w) t = step_tidy mid new walk after w (packs_tidy old before steps mid walk p t)

  packs_least : (old : Keyspace S) (before : Option Walk) (steps : ℕ) (new : Keyspace S) (after : Option Walk) → Packs blocks heap old before steps new after → 0 < steps → after ≡ None
      → IsTidy blocks heap old before → HasLeastSlabs blocks heap new
  packs_least old before _ _ _ packs.start some none t = absurd (omega (arith, some))
  packs_least old before _ _ _ (packs.more steps mid new walk after p w) some none t = step_least mid new walk after w (packs_tidy old before steps mid walk p t) none

  module _ (step_of : S → S → Type 0) (moment : ℕ) (plan : Plan) (old new : State S) (done : StepsDone) (still : plan.expire ≡ 0) (r : EngineRests blocks heap step_of moment plan old new done) where
    begins_tidy : IsTidy blocks heap (keyspace_of old) old.walk → IsTidy blocks heap r.works.mid old.walk
    begins_tidy t =
        let w = r.works in
        tidy_same w.thinned w.mid old.walk w.store (λ db. keys_stay w.rehashed db) (subst (λ (k : Keyspace S). IsTidy blocks heap k old.walk) (sym (w.unthinned still)) t)

    pub rests_tidy : IsTidy blocks heap (keyspace_of old) old.walk → IsTidy blocks heap (keyspace_of new) new.walk
    rests_tidy t = packs_tidy r.works.mid old.walk done.defrag (keyspace_of new) new.walk r.works.packed (begins_tidy t)

    pub rests_least : IsTidy blocks heap (keyspace_of old) old.walk → 0 < plan.defrag → new.walk ≡ None → HasLeastSlabs blocks heap (keyspace_of new)
    rests_least t some none = packs_least r.works.mid old.walk done.defrag (keyspace_of new) new.walk r.works.packed (omega (arith, some, r.works.all_packed)) none (begins_tidy t)
