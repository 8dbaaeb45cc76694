-- A run begins, or does not.
use Rattle.std.proofs.Common.{◌≡◌, ℕ, List, ap, ◌∙◌, subst, sym, refl, inl, inr, max, arith}
use Rattle.std.specs.Prelude.{Option, Some, None, Ok, Err, Bool, true, false}
use Rattle.class_heap.specs.declared.heap.ClassHeap.{ClassHeap}
use Rattle.class_heap.specs.Heap.{heap_blocks, heap_slabs, IsClassHeapStep}
use Rattle.blocks.specs.Slabs.{no_slabs}
use Rattle.blocks.specs.Blocks.{no_blocks, Served, no_step}
use Rattle.plain_world.specs.Worlds.{World, new_world, live}
use Rattle.object_codec.specs.declared.limits.Limits.{Limits}
use Rattle.keyspace.specs.Sound.{Sound}
use Rattle.keyspace.proofs.Serving.{both}
use Rattle.keyspace.specs.Databases.{Bases, means}
use Rattle.keyspace.specs.Scopes.{Scope, AreGrown, Within}
use Rattle.rdb_reader.specs.Forms.{AreNew}
use Rattle.rdb_reader.proofs.Anew.{none_new}
use Rattle.rdb_reader.proofs.Living.{new_live}
use Rattle.outside.specs.Files.{Files, HostSeen, IsListed}
use Rattle.rdb_reader.specs.Fetching.{Counts, has_failed}
use Rattle.rdb_reader.specs.Taken.{TakesFile}
use Rattle.rdb_reader.specs.Loads.{Loads}
use Rattle.rdb_reader.specs.declared.fault.LoadFault.{LoadFault}
use Rattle.rdb_reader.specs.declared.fault.LoadFault.TheVariants as faults
use Rattle.rdb_reader.specs.declared.loading.Loaded.{Loaded}
use Rattle.redis_core.specs.Background.{EngineRests}
use Rattle.redis_core.proofs.Working.{rests_still}
use Rattle.redis_core.proofs.Resting.{rests_none, still_grown}
use Rattle.redis_core.specs.Engines.{HasNoKey, Keeps}
use Rattle.redis_core.specs.declared.background.StepsDone.{StepsDone}
use Rattle.outside.specs.declared.pacing.Plan.{Plan}
use Rattle.program_top.specs.Engines.{Engine, world_of, IsFirst, Begun}
use Rattle.program_top.specs.WordsRead.{options_read}
use Rattle.program_top.specs.declared.words.Options as words
use Rattle.program_top.specs.Started.{Starts, ending_by}
use Rattle.program_top.specs.Starting.{IsLoaded, NotLoaded, BeginsWith, CountsHost, UsesHost, is_host}
use Rattle.program_top.specs.declared.ending.Ending.{Ending}
use Rattle.program_top.specs.declared.ending.Ending.TheVariants as endings

-- an engine without a key that did the work of a plan holds the world of a server that was just begun
begun_world : (moment : ℕ) (plan : Plan) (old new : Engine) (done : StepsDone) (seed : ℕ) (limits : Limits) → Begun seed limits old
    → EngineRests heap_blocks heap_slabs IsClassHeapStep moment plan old new done → world_of new ≡ new_world
begun_world moment plan old new done seed limits b r =
    r.works.stays new.selected new.last (omega arith)
    ∙ ap (λ db. live (means db old.bases (heap_blocks old.store)) new.last) (r.selected ∙ b.new.selected)
    ∙ ap (λ w. live w new.last) b.new.empty
    ∙ new_live new.last

-- a new engine is a first one, and one that was served more stays it
pub first_new : (engine : Engine) (store : ClassHeap) (seed : ℕ) (limits : Limits) → heap_blocks store ≡ no_blocks → heap_slabs store ≡ no_slabs → engine.store ≡ store
    → engine.bases.seed ≡ seed → engine.bases.limits ≡ limits → engine.bases.turn ≡ 0 → engine.walk ≡ None → AreGrown engine.bases (heap_blocks engine.store) → HasNoKey heap_blocks engine
    → Sound engine.bases (heap_blocks engine.store) → IsFirst seed limits engine
first_new engine store seed limits empty bare same is are turn walk grown none sound =
    record {
      seed_is = is;
      limits_are = are;
      turn_is = turn;
      walk_is = walk;
      grown = grown;
      form = none_new engine.bases (heap_blocks engine.store) sound.arranged none;
      sound = sound;
      store =
          store;
      empty = empty;
      bare = bare;
      served = subst (Served IsClassHeapStep store) (sym same) no_step;
    }

pub first_then : (old new : Engine) (seed : ℕ) (limits : Limits) → IsFirst seed limits old → Keeps heap_blocks old new → Served IsClassHeapStep old.store new.store → new.walk ≡ old.walk
    → (scope : Scope) → Within scope old.bases new.bases (heap_blocks old.store) (heap_blocks new.store) → AreNew new.bases (heap_blocks new.store) → IsFirst seed limits new
first_then old new seed limits f keeps served walk scope within form = record {
  seed_is = keeps.settings.seed ∙ f.seed_is;
  limits_are = keeps.settings.limits ∙ f.limits_are;
  turn_is = keeps.settings.turn ∙ f.turn_is;
  walk_is = walk ∙ f.walk_is;
  grown = still_grown scope old.bases new.bases (heap_blocks old.store) (heap_blocks new.store) within f.grown;
  form = form;
  sound = keeps.sound;
  store = f.store;
  empty = f.empty;
  bare = f.bare;
  served = both IsClassHeapStep f.store old.store new.store f.served served;
}

-- the same of one that did the work of a plan of no step
first_rests : (moment : ℕ) (plan : Plan) (old new : Engine) (done : StepsDone) (seed : ℕ) (limits : Limits) → plan.expire ≡ 0 → plan.rehash ≡ 0 → plan.defrag ≡ 0 → IsFirst seed limits old
    → EngineRests heap_blocks heap_slabs IsClassHeapStep moment plan old new done → IsFirst seed limits new
first_rests moment plan old new done seed limits none unhashed still f r =
    let same = rests_none heap_blocks heap_slabs IsClassHeapStep moment plan old new done none unhashed still r in
    let s = rests_still heap_blocks heap_slabs IsClassHeapStep moment plan old new done none still r in
    record {
      seed_is = r.works.seed ∙ f.seed_is;
      limits_are = r.works.limits ∙ f.limits_are;
      turn_is = s.turn ∙ f.turn_is;
      walk_is = s.walk ∙ f.walk_is;
      grown = subst (AreGrown new.bases) (sym (ap heap_blocks same.1)) (subst (λ (b : Bases). AreGrown b (heap_blocks old.store)) (sym same.0) f.grown);
      form = subst (AreNew new.bases) (sym (ap heap_blocks same.1)) (subst (λ (b : Bases). AreNew b (heap_blocks old.store)) (sym same.0) f.form);
      sound = r.works.sound;
      store = f.store;
      empty = f.empty;
      bare = f.bare;
      served = both IsClassHeapStep f.store old.store new.store f.served s.served;
    }

-- the moment is the last one used, where none was before
pub last_is : (old new moment : ℕ) → old ≡ 0 → new ≡ max old moment → new ≡ moment
last_is old new moment zero is = omega (arith, zero, is)

module _ (files : Files) (limit : ℕ) (name : List ℕ) (world : World) (last moment : ℕ) (is : last ≡ moment) where
  pub file_loaded : (loaded : Loaded) → Loads files name limit last world (Ok loaded) → IsLoaded files limit name moment world
  file_loaded loaded l = let m = subst (λ t. Loads files name limit t world (Ok loaded)) is l in record { bytes = m.bytes; is = m.is; few = m.few; file = m.read.file }

  not_loaded_by : (fault : LoadFault) → Loads files name limit moment world (Err fault) → NotLoaded files limit name moment (ending_by fault)
  not_loaded_by (faults.Refused what at) l = l.0
  not_loaded_by faults.Host l = tt
  not_loaded_by faults.Limit l = l.0
  not_loaded_by faults.Memory l = tt

  pub fault_ends : (fault : LoadFault) (ending : Ending) → ending ≡ ending_by fault → Loads files name limit last world (Err fault) → NotLoaded files limit name moment ending
  fault_ends fault ending e l = subst (NotLoaded files limit name moment) (sym e) (not_loaded_by fault (subst (λ t. Loads files name limit t world (Err fault)) is l))

module _ (before after : HostSeen) (name : List ℕ) where
  abbrev Sure : Type 0
  Sure = (before.reading.sure ≡ true) × IsListed before.files name

  host_by : (fault : LoadFault) → Counts {A = Loaded} before.reading.faults after.reading.faults Sure (Err fault) → CountsHost before after name (is_host (ending_by fault))
  host_by (faults.Refused what at) c = c
  host_by faults.Host c = c
  host_by faults.Limit c = c
  host_by faults.Memory c = c

  pub host_counts : (fault : LoadFault) (ending : Ending) → ending ≡ ending_by fault → Counts {A = Loaded} before.reading.faults after.reading.faults Sure (Err fault)
      → CountsHost before after name (is_host ending)
  host_counts fault ending e c = subst (λ x. CountsHost before after name (is_host x)) (sym e) (host_by fault c)

-- how far the file was taken
failed_by : (fault : LoadFault) → has_failed {A = Loaded} (Err fault) ≡ is_host (ending_by fault)
failed_by (faults.Refused what at) = refl
failed_by faults.Host = refl
failed_by faults.Limit = refl
failed_by faults.Memory = refl

pub file_taken : (files : Files) (name : List ℕ) (limit : ℕ) (after : HostSeen) (fault : LoadFault) (ending : Ending) → ending ≡ ending_by fault
    → TakesFile files name limit after (has_failed {A = Loaded} (Err fault)) → TakesFile files name limit after (is_host ending)
file_taken files name limit after fault ending e t = subst (TakesFile files name limit after) (failed_by fault ∙ sym (ap is_host e)) t

-- a host that isn't used
pub unused : (limit : ℕ) (file : Option (List ℕ)) (host : HostSeen) → UsesHost limit file host host false
unused limit None host = (refl, refl)
unused limit (Some name) host = (refl, inr (refl, refl))

-- a host whose file is named, and taken
pub uses_named : (limit : ℕ) (file : Option (List ℕ)) (name : List ℕ) (before after : HostSeen) (fails : Bool) → file ≡ Some name → CountsHost before after name fails
    → TakesFile before.files name limit after fails → UsesHost limit file before after fails
uses_named limit file name before after fails is counts t = let P : Option (List ℕ) → Type 0 = λ o. UsesHost limit o before after fails in subst P (sym is) (counts, inl t)

-- memory wanted before the host was used
pub unused_memory : (limit : ℕ) (file : Option (List ℕ)) (host : HostSeen) (ending : Ending) → ending ≡ endings.Memory → UsesHost limit file host host (is_host ending)
unused_memory limit file host ending is = subst (λ e. UsesHost limit file host host (is_host e)) (sym is) (unused limit file host)

-- what begins without a file
pub fresh_starts : (files : Files) (options : words.Options) (moment : ℕ) (plan : Plan) (old new : Engine) (done : StepsDone) → plan.expire ≡ 0 → plan.rehash ≡ 0 → plan.defrag ≡ 0
    → options.file ≡ None → Begun options.seed options.limits old → EngineRests heap_blocks heap_slabs IsClassHeapStep moment plan old new done
    → Starts files (options_read options) moment (Ok new)
fresh_starts files options moment plan old new done none unhashed still unnamed b r =
    let P : Option (List ℕ) → Type 0 = λ o. BeginsWith files options.max_input o moment (world_of new) in (
      subst P (ap (λ file. (options_read (record options { file = file })).file) (sym unnamed)) (begun_world moment plan old new done options.seed options.limits b r),
      first_rests moment
          plan old new done options.seed options.limits none unhashed still b.first r,
      last_is old.last new.last moment b.new.last r.last,
    )
