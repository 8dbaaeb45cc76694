-- How the walk that packs the store goes on, and what commands show of it and of the store.
use Rattle.std.specs.Prelude.{◌≡◌, ◌↔◌, ℕ, ◌+◌, ◌<◌, Bool, true, false, List, [], ◌∷◌, pos, Option, None, Some, IfSome, Result, Ok, Err}
use Rattle.blocks.specs.Blocks.{Blocks}
use Rattle.blocks.specs.Slabs.{Heap, Begun, slabs_of, needed}
use Rattle.defrag.specs.Swept.{IsSwept}
use Rattle.defrag.specs.Ways.{shapes, SameShapes, Goes}
use Rattle.defrag.specs.declared.walk.Visit.{Visit}
use Rattle.defrag.specs.declared.walk.Visit.TheVariants.{More, Done}
use Rattle.defrag.specs.declared.walk.Walk.{Walk}
use Rattle.held.specs.Relocation.{Relocates}
use Rattle.plain_world.specs.declared.refusal.Refusal.{Refusal}
use Rattle.plain_world.specs.declared.reply.Part.{Part}
use Rattle.plain_world.specs.declared.reply.Part.TheVariants.{Number}
use Rattle.plain_model.specs.declared.command.Command.{Command}
use Rattle.plain_model.specs.declared.command.Command.TheVariants.{Strings, Lists, Sets, Hashes, Zsets, Streams, Keys, Connection}
use Rattle.plain_model.specs.declared.connection.ConnectionCommand.{ConnectionCommand}
use Rattle.plain_model.specs.declared.connection.ConnectionCommand.TheVariants as connection
use Rattle.keyspace.specs.Databases.{Keyspace}
use Rattle.keyspace.specs.Shown.{ListsSlabs}
use Rattle.keyspace.specs.Values.{value_of, value_refs, value_marks, value_tables, IsSound, encoding_of}

-- a walk that is open stands in a database
abbrev pub IsOpen : Option Walk → Type 0
IsOpen walk = IfSome walk (λ place. place.database < 16)

-- how many passes ended
abbrev pub passes : Bool → ℕ
passes false = 0
passes true = 1

-- where a walk begins
abbrev pub first_place : Walk
first_place = record { database = 0; item = 0; mark = None }

-- what a step leaves: the walk where it stands, or none where its pass has ended
abbrev pub left_open : Visit → Walk → Option Walk
left_open More walk = Some walk
left_open Done walk = None

module _ {S : Type 0} (blocks : S → Blocks) (heap : S → Heap) where
  -- no block that the walk has passed wants to move, and as many slabs are kept as are needed
  abbrev pub IsSweptTo : Keyspace S → Walk → Type 0
  IsSweptTo keyspace walk =
      IsSwept (value_refs (blocks keyspace.store)) (value_marks (blocks keyspace.store)) keyspace.bases (heap keyspace.store) walk

  -- each class has as many slabs as its blocks need, and no more
  abbrev pub HasLeastSlabs : Keyspace S → Type 0
  HasLeastSlabs keyspace =
      (class : ℕ) → class < 36 → slabs_of (heap keyspace.store) class ≡ needed (heap keyspace.store) class

  -- no walk is open, or the open one has left no block behind that wants to move
  abbrev pub IsTidy : Keyspace S → Option Walk → Type 0
  IsTidy keyspace walk = IfSome walk (IsSweptTo keyspace)

  -- a step goes on from the walk that is open, or from one that begins with a pass over the store
  pub data Opens (old mid : Keyspace S) : Option Walk → Walk → Type 0 where
    open_walk : (walk : Walk) → mid ≡ old → Opens old mid (Some walk) walk
    new_walk : mid.bases ≡ old.bases → blocks mid.store ≡ blocks old.store → Begun (heap old.store) (heap mid.store)
        → IsSweptTo mid first_place → Opens old mid None first_place

  -- One step of the walk moves blocks, which leaves how values are encoded and their tables, and leaves the walk further
  -- on, or none where it came through all databases.
  pub record WalksOn (old new : Keyspace S) (before after : Option Walk) : Type 0 where
    pub mid : Keyspace S
    pub from : Walk
    pub to : Walk
    pub visit : Visit
    pub opens : Opens old mid before from
    pub relocates : Relocates value_refs value_of IsSound mid.bases new.bases (blocks mid.store) (blocks new.store)
    pub encodings : SameShapes encoding_of encoding_of mid.bases new.bases
    pub tables : SameShapes (value_tables (blocks mid.store)) (value_tables (blocks new.store)) mid.bases new.bases
    pub goes : Goes (shapes (value_marks (blocks mid.store)) mid.bases) from to visit
    pub ended : (visit ≡ Done) ↔ (to.database ≡ 16)
    pub left : after ≡ left_open visit to
    pub swept : visit ≡ More → IsSweptTo mid from → IsSweptTo new to
    pub least : visit ≡ Done → IsSweptTo mid from → HasLeastSlabs new

  -- so many steps, one after the other
  pub data Packs (old : Keyspace S) (before : Option Walk) : ℕ → Keyspace S → Option Walk → Type 0 where
    start : Packs old before 0 old before
    more : (steps : ℕ) (mid new : Keyspace S) (walk after : Option Walk) → Packs old before steps mid walk
        → WalksOn mid new walk after → Packs old before (steps + 1) new after

  -- DEBUG DEFRAG: steps of the walk that is open, or of one that begins, until so many are made or the pass ends. How
  -- many passes ended, which is none or one, is told.
  pub data Defrags : ℕ → Keyspace S → Keyspace S → Option Walk → Option Walk → ℕ → Type 0 where
    made : (keyspace : Keyspace S) (walk : Option Walk) → Defrags 0 keyspace keyspace walk walk 0
    ends : (left : ℕ) (old new : Keyspace S) (before : Option Walk) → WalksOn old new before None
        → Defrags (left + 1) old new before None 1
    goes_on : (left ended : ℕ) (old mid new : Keyspace S) (before after : Option Walk) (walk : Walk)
        → WalksOn old mid before (Some walk) → Defrags left mid new (Some walk) after ended
        → Defrags (left + 1) old new before after ended

  module _ (old new : Keyspace S) (before after : Option Walk) where
    -- the reply says whether a pass ended
    pub record IsDefragged (steps : ℕ) (reply : List Part) : Type 0 where
      pub ended : ℕ
      pub defrags : Defrags steps old new before after ended
      pub is : reply ≡ Number (pos ended) ∷ []

    -- what a command on the connection or the server shows of the store, and what becomes of the walk that is open
    abbrev pub connection_tends : ConnectionCommand → List Part → Type 0
    connection_tends connection.MemorySlabs reply = (after ≡ before) × ListsSlabs (heap old.store) reply
    connection_tends (connection.DebugDefrag steps) reply = IsDefragged steps reply
    connection_tends other reply = after ≡ before

    -- the same of any command: only DEBUG DEFRAG moves the walk
    abbrev pub Tends : Command → List Part → Type 0
    Tends (Strings command) reply = after ≡ before
    Tends (Lists command) reply = after ≡ before
    Tends (Sets command) reply = after ≡ before
    Tends (Hashes command) reply = after ≡ before
    Tends (Zsets command) reply = after ≡ before
    Tends (Streams command) reply = after ≡ before
    Tends (Keys command) reply = after ≡ before
    Tends (Connection command) reply = connection_tends command reply

    -- the same of what words mean
    abbrev pub TendsMeant : Result Command Refusal → List Part → Type 0
    TendsMeant (Ok command) reply = Tends command reply
    TendsMeant (Err refusal) reply = after ≡ before

-- the words ask for steps of the walk, and the reply says that its pass ended
abbrev pub EndsPass : Result Command Refusal → List Part → Type 0
EndsPass (Ok (Connection (connection.DebugDefrag steps))) reply = reply ≡ Number (pos 1) ∷ []
EndsPass other reply = ⊥
