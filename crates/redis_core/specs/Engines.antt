-- What contracts see of an engine, and what its calls do.
use Rattle.std.specs.Prelude.{◌≡◌, ℕ, ◌<◌, List, Bool, replicate, max, true, false, Option, None, Result, Ok, Err, IfOk, MatchResult}
use Rattle.blocks.specs.Blocks.{Blocks, Served}
use Rattle.blocks.specs.Slabs.{Heap}
use Rattle.defrag.specs.declared.walk.Walk.{Walk}
use Rattle.plain_world.specs.Words.{Words}
use Rattle.plain_world.specs.Worlds.{World, live, new_world}
use Rattle.plain_model.specs.Outcomes.{IsRefusal}
use Rattle.plain_model.specs.Meant.{meant}
use Rattle.plain_model.specs.Meant as meaning
use Rattle.plain_model.specs.Steps.{may_meant}
use Rattle.plain_model.specs.declared.command.Command.{Command}
use Rattle.plain_model.specs.declared.connection.ConnectionCommand.{ConnectionCommand}
use Rattle.plain_model.specs.declared.connection.ConnectionCommand.TheVariants as connection
use Rattle.redis_core.specs.declared.answering.Executed.{Executed}
use Rattle.plain_model.specs.declared.ctx.Ctx.{Ctx}
use Rattle.plain_world.specs.declared.refusal.Refusal.{Refusal}
use Rattle.plain_world.specs.declared.reply.Part.{Part}
use Rattle.held.specs.Databases.{no_base}
use Rattle.keyspace.specs.Databases.{Bases, means, SameSettings}
use Rattle.keyspace.specs.Sound.{Sound}
use Rattle.keyspace.specs.Databases.{Keyspace}
use Rattle.keyspace.specs.Commands.{visible}
use Rattle.keyspace.specs.Scopes.{Within, AreGrown}
use Rattle.keyspace.specs.Insides.{Insides}
use Rattle.keyspace.specs.Forms.{Formed}
use Rattle.redis_core.specs.Touched.{FormedMeant, scope_meant, AsksNoSteps, AsksNoMoves, ShowsMeant, Settles}
use Rattle.redis_core.specs.Walking.{IsOpen, TendsMeant}
use Rattle.redis_core.specs.declared.answering.Own.{Own}
use Rattle.redis_core.specs.declared.answering.Own.TheVariants as own
use Rattle.rdb_reader.specs.declared.fault.LoadFault.{LoadFault}
use Rattle.rdb_reader.specs.declared.fault.LoadFault.TheVariants as faults

-- the databases and their store, the number of the selected one, the last moment that was used, the walk that is open,
-- and whether memory was refused to the engine
pub record State (S : Type 0) : Type 0 where
  pub bases : Bases
  pub store : S
  pub selected : ℕ
  pub last : ℕ
  pub walk : Option Walk
  pub is_spent : Bool

module _ {S : Type 0} (blocks : S → Blocks) where
  -- the world that an engine holds, at the last moment that it used
  abbrev pub world_of : State S → World
  world_of engine = live (means engine.selected engine.bases (blocks engine.store)) engine.last

  -- no database has a key
  abbrev pub HasNoKey : State S → Type 0
  HasNoKey engine = means 0 engine.bases (blocks engine.store) ≡ new_world

  -- database 0 is selected, no database has a key, no moment was used yet and no memory refused, the first expiry step
  -- is database 0's, and no database has a table
  pub record IsNew (engine : State S) : Type 0 where
    pub empty : HasNoKey engine
    pub selected : engine.selected ≡ 0
    pub last : engine.last ≡ 0
    pub walk : engine.walk ≡ None
    pub alive : engine.is_spent ≡ false
    pub turn : engine.bases.turn ≡ 0
    pub bases : engine.bases.bases ≡ replicate 16 (no_base engine.bases.seed)
    pub grown : AreGrown engine.bases (blocks engine.store)

  -- The databases are sound, one of them is selected, and a walk that is open stands in one.
  pub record IsEngine (bases : Bases) (store : S) (selected : ℕ) (walk : Option Walk) : Type 0 where
    pub sound : Sound bases (blocks store)
    pub within : selected < 16
    pub walking : IsOpen walk

-- its databases, over its store
abbrev pub keyspace_of : {S : Type 0} → State S → Keyspace S
keyspace_of engine = record { bases = engine.bases; store = engine.store }

-- databases, store and the selected one stay
pub record Stays {S : Type 0} (old new : State S) : Type 0 where
  pub bases : new.bases ≡ old.bases
  pub store : new.store ≡ old.store
  pub selected : new.selected ≡ old.selected

-- The keyspace is sound, and what values are made with stays.
pub record Keeps {S : Type 0} (blocks : S → Blocks) (old new : State S) : Type 0 where
  pub sound : Sound new.bases (blocks new.store)
  pub settings : SameSettings old.bases new.bases

-- a command that the engine answers itself
abbrev pub own_command : Own → ConnectionCommand
own_command (own.Select number) = connection.Select number
own_command (own.Rehash steps) = connection.DebugRehash steps
own_command (own.Defrag steps) = connection.DebugDefrag steps
own_command own.Slabs = connection.MemorySlabs

-- what a reply leads to
abbrev pub answered_with : {E : Type 0} → ℕ → Bool → Result (List Part) E → Result Executed E
answered_with selected quit (Ok reply) = Ok (record { reply = reply; selected = selected; quit = quit })
answered_with selected quit (Err e) = Err e

-- memory was refused
abbrev pub is_memory : {A : Type 0} → Result A LoadFault → Bool
is_memory (Ok loaded) = false
is_memory (Err (faults.Refused what at)) = false
is_memory (Err faults.Host) = false
is_memory (Err faults.Limit) = false
is_memory (Err faults.Memory) = true

-- What stays where a request was answered, or memory was refused: the keyspace is sound, and a refused request changes
-- neither the keyspace nor which database is selected.
pub record Stands {S E : Type 0} (blocks : S → Blocks) (old new : Keyspace S) (at : Ctx) (result : Result Executed E)
    : Type 0 where
  pub within : IfOk result (λ answered. answered.selected < 16)
  pub refused : IfOk result (λ answered. IsRefusal answered.reply → (new ≡ old) × (answered.selected ≡ at.db))
  pub sound : Sound new.bases (blocks new.store)
  pub settings : SameSettings old.bases new.bases

-- What comes of what the words of a request mean, a command or a refusal, over a keyspace and a walk that may be open.
pub record Answers {S E : Type 0} (blocks : S → Blocks) (heap : S → Heap) (step_of : S → S → Type 0)
    (old new : Keyspace S) (before after : Option Walk) (at : Ctx) (asked : Result Command Refusal)
    (result : Result Executed E) : Type 0 where
  -- a step of the model on what the keyspace means, before and after
  pub answers : IfOk result (λ answered. may_meant old.bases.seed (visible blocks old at) at.moment asked answered.reply
      (live (means answered.selected new.bases (blocks new.store)) at.moment))
  pub quits : IfOk result (λ answered. answered.quit ≡ meaning.quits asked)
  -- the store was served placings, returns and writes alone
  pub served : AsksNoMoves asked → Served step_of old.store new.store
  -- the walk that is open stays, DEBUG DEFRAG makes its steps, and MEMORY SLABS lists the slabs
  pub tends : MatchResult result (λ answered. TendsMeant blocks heap old new before after asked answered.reply)
      (λ e. after ≡ before)
  -- nothing changes outside what is written: tables grow from those before, and all other keys keep their blocks
  pub within : AsksNoSteps asked
      → Within (scope_meant at.db asked) old.bases new.bases (blocks old.store) (blocks new.store)
  -- the tables inside the values that are written come from none or from those of values that were there, all others stay
  pub insides : AsksNoSteps asked
      → Insides (scope_meant at.db asked) old.bases new.bases (blocks old.store) (blocks new.store)
  -- pages are those of the tables as they stand, encodings those of the values, DEBUG REHASH makes its steps, and what
  -- takes elements out of a value leaves its tables settled
  pub shows : IfOk result (λ answered. ShowsMeant blocks old new at asked answered.reply)
  -- what is written is encoded by the command's rule, and every other value stays as it was
  pub forms : IfOk result (λ answered. AsksNoMoves asked
      → FormedMeant blocks at.db (visible blocks old at) asked answered.reply old new)
  pub settles : IfOk result (λ answered. Settles old.bases new.bases (blocks old.store) (blocks new.store))
  pub stands : Stands blocks old new at result

-- The step of an engine: the moment counts as the last one used where that is later, and what was asked, a command or a
-- refusal, is answered at the last one, from the databases and the walk that it has to those that it has then.
pub record Performs {S : Type 0} (blocks : S → Blocks) (heap : S → Heap) (step_of : S → S → Type 0) (moment : ℕ)
    (old : State S) (asked : Result Command Refusal) (reply : List Part) (new : State S) : Type 0 where
  pub last : new.last ≡ max old.last moment
  pub answers : Answers {E = ⊥} blocks heap step_of (keyspace_of old) (keyspace_of new) old.walk new.walk
      (record { db = old.selected; moment = new.last }) asked
      (Ok (record { reply = reply; selected = new.selected; quit = meaning.quits asked }))
  pub alive : new.is_spent ≡ false

-- the same of what the words of a request mean
abbrev pub Executes : {S : Type 0} → (S → Blocks) → (S → Heap) → (S → S → Type 0) → ℕ → State S → Words → List Part
    → State S → Type 0
Executes blocks heap step_of moment old words reply new =
    Performs blocks heap step_of moment old (meant words) reply new
