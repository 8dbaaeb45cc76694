-- The program's engine, over a class heap.
use Rattle.std.specs.Prelude.{◌≡◌, ℕ, None}
use Rattle.blocks.specs.Blocks.{no_blocks, Served}
use Rattle.blocks.specs.Slabs.{no_slabs}
use Rattle.class_heap.specs.declared.heap.ClassHeap.{ClassHeap}
use Rattle.class_heap.specs.Heap.{heap_blocks, heap_slabs, IsClassHeapStep}
use Rattle.plain_world.specs.Worlds.{World}
use Rattle.object_codec.specs.declared.limits.Limits.{Limits}
use Rattle.keyspace.specs.Sound.{Sound}
use Rattle.keyspace.specs.Scopes.{AreGrown}
use Rattle.rdb_reader.specs.Forms.{AreNew}
use Rattle.outside.specs.declared.pacing.Plan.{Plan}
use Rattle.redis_core.specs.Background.{EngineRests}
use Rattle.redis_core.specs.Engines.{State, IsNew}
use Rattle.redis_core.specs.Engines as engines
use Rattle.redis_core.specs.declared.background.StepsDone.{StepsDone}

abbrev pub Engine : Type 0
Engine = State ClassHeap

-- the world that it holds
abbrev pub world_of : Engine → World
world_of engine = engines.world_of heap_blocks engine

-- the work of a plan, whatever comes of it
abbrev pub works : ℕ → Plan → Engine → Engine → Type 0
works moment plan old new =
    (done : StepsDone) × EngineRests heap_blocks heap_slabs IsClassHeapStep moment plan old new done

-- Its hashes have this seed and its values these limits, the first expiry step is the turn of database 0, no walk is
-- open, its tables come from none, its values are encoded as those written anew, and its keyspace is sound: each live
-- block of the store is owned exactly once. The store was served placings by the heap's rule, returns and writes alone,
-- from one without a block or a slab.
pub record IsFirst (seed : ℕ) (limits : Limits) (engine : Engine) : Type 0 where
  pub seed_is : engine.bases.seed ≡ seed
  pub limits_are : engine.bases.limits ≡ limits
  pub turn_is : engine.bases.turn ≡ 0
  pub walk_is : engine.walk ≡ None
  pub grown : AreGrown engine.bases (heap_blocks engine.store)
  pub form : AreNew engine.bases (heap_blocks engine.store)
  pub sound : Sound engine.bases (heap_blocks engine.store)
  pub store : ClassHeap
  pub empty : heap_blocks store ≡ no_blocks
  pub bare : heap_slabs store ≡ no_slabs
  pub served : Served IsClassHeapStep store engine.store

-- it has no key yet
pub record Begun (seed : ℕ) (limits : Limits) (engine : Engine) : Type 0 where
  pub new : IsNew heap_blocks engine
  pub first : IsFirst seed limits engine
