-- How the first engine of a run comes from a new one: by loading, or by a plan of no step.
use Rattle.std.proofs.Common.{◌≡◌, ℕ, ◌≤◌, refl, ap, ◌∙◌, arith}
use Rattle.outside.specs.declared.pacing.Plan.{Plan}
use Rattle.blocks.specs.Blocks.{Blocks}
use Rattle.blocks.specs.Slabs.{Heap}
use Rattle.held.specs.Rehash.{Steps, start, more}
use Rattle.held.proofs.Within.{within_grown}
use Rattle.keyspace.specs.Databases.{Bases, Keyspace}
use Rattle.keyspace.specs.Scopes.{Scope, AreGrown, Within}
use Rattle.keyspace.specs.Values.{value_refs}
use Rattle.redis_core.specs.Engines.{State, keyspace_of}
use Rattle.redis_core.specs.Background.{EngineRests}
use Rattle.redis_core.specs.declared.background.StepsDone.{StepsDone}
use Rattle.redis_core.proofs.Working.{unpacked}

-- no rehash step changes nothing
unhashed : (blocks : Blocks) (old : Bases) (count : ℕ) → count ≡ 0 → (new : Bases) → Steps blocks old count new → new ≡ old
unhashed blocks old _ none _ start = refl
unhashed blocks old _ none _ (more count mid new steps last) = absurd (omega (arith, none))

-- databases and store stay where no step is planned
pub rests_none : {S : Type 0} (blocks : S → Blocks) (heap : S → Heap) (step_of : S → S → Type 0) (moment : ℕ) (plan : Plan) (old new : State S) (done : StepsDone) → plan.expire ≡ 0
    → plan.rehash ≡ 0 → plan.defrag ≡ 0
    → EngineRests blocks heap step_of moment plan old new done → (new.bases ≡ old.bases) × (new.store ≡ old.store)
rests_none {S = S} blocks heap step_of moment plan old new done none unrehashed still r =
    let w = r.works in
    let u = unpacked blocks heap done.defrag (w.all_packed ∙ still) w.mid old.walk (keyspace_of new) new.walk w.packed in
    let few = w.rehashed.few in
    let same = unhashed (blocks w.thinned.store) w.thinned.bases done.rehash (omega (arith, few, unrehashed)) w.mid.bases w.rehashed.steps in (
      ap (λ (k : Keyspace S). k.bases) u.0 ∙ same ∙ ap (λ (k : Keyspace S). k.bases) (w.unthinned none),
      ap (λ (k : Keyspace S). k.store) u.0 ∙ w.store
          ∙ ap (λ (k : Keyspace S). k.store) (w.unthinned none),
    )

-- tables that come from none still do
pub still_grown : (scope : Scope) (old new : Bases) (m after : Blocks) → Within scope old new m after → AreGrown old m → AreGrown new after
still_grown scope old new m after within grown = within_grown value_refs scope old new m after within grown
