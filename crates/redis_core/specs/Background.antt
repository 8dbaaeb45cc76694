-- What an engine does between commands.
use Rattle.std.specs.Prelude.{◌≡◌, ℕ, ◌≤◌, max, Option}
use Rattle.outside.specs.declared.pacing.Plan.{Plan}
use Rattle.blocks.specs.Blocks.{Blocks, Served}
use Rattle.blocks.specs.Slabs.{Heap}
use Rattle.defrag.specs.declared.walk.Walk.{Walk}
use Rattle.held.specs.Expiry.{Expired}
use Rattle.held.specs.Rehash.{Rehashed}
use Rattle.plain_world.specs.Worlds.{live}
use Rattle.keyspace.specs.Databases.{Keyspace, SameSettings, means}
use Rattle.keyspace.specs.Sound.{Sound}
use Rattle.keyspace.specs.Values.{value_refs}
use Rattle.redis_core.specs.Walking.{Packs}
use Rattle.redis_core.specs.Engines.{State, keyspace_of}
use Rattle.redis_core.specs.declared.background.StepsDone.{StepsDone}

-- no step was made
abbrev pub no_steps : StepsDone
no_steps = record { rehash = 0; defrag = 0; expired = 0 }

module _ {S : Type 0} (blocks : S → Blocks) (heap : S → Heap) (step_of : S → S → Type 0) where
  -- The work of a plan at a moment, over a keyspace and a walk that may be open: so many expiry steps, then so many
  -- rehash steps, then so many steps of the walk. Nothing is lost that is there at the moment.
  pub record DoesPlan (moment : ℕ) (plan : Plan) (old new : Keyspace S) (before after : Option Walk) (done : StepsDone)
      : Type 0 where
    pub thinned : Keyspace S
    pub expired : Expired value_refs moment old.bases (blocks old.store) plan.expire done.expired
        thinned.bases (blocks thinned.store)
    pub unthinned : plan.expire ≡ 0 → thinned ≡ old
    pub served : Served step_of old.store thinned.store
    pub mid : Keyspace S
    pub rehashed : Rehashed (blocks thinned.store) plan.rehash done.rehash thinned.bases mid.bases
    pub store : mid.store ≡ thinned.store
    pub packed : Packs blocks heap mid before done.defrag new after
    pub all_packed : done.defrag ≡ plan.defrag
    pub stays : (number later : ℕ) → moment ≤ later
        → live (means number new.bases (blocks new.store)) later
        ≡ live (means number old.bases (blocks old.store)) later
    pub sound : Sound new.bases (blocks new.store)
    pub settings : SameSettings thinned.bases new.bases
    pub limits : new.bases.limits ≡ old.bases.limits
    pub seed : new.bases.seed ≡ old.bases.seed

  -- An engine does the work of a plan. The moment counts as the last one used where it is later.
  pub record EngineRests (moment : ℕ) (plan : Plan) (old new : State S) (done : StepsDone) : Type 0 where
    pub last : new.last ≡ max old.last moment
    pub works : DoesPlan new.last plan (keyspace_of old) (keyspace_of new) old.walk new.walk done
    pub selected : new.selected ≡ old.selected
    pub alive : new.is_spent ≡ old.is_spent
