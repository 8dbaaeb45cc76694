-- What is saved of a keyspace.
use Rattle.std.specs.Prelude.{◌≡◌, ℕ, zero, suc, ◌+◌, ◌<◌, List, None, Some, Result, Ok, Err, ⊤}
use Rattle.std.specs.FinMap.{get, len}
use Rattle.blocks.specs.Blocks.{Blocks}
use Rattle.plain_world.specs.Worlds.{World, Database, no_keys, live, look}
use Rattle.held.specs.Calls.{StandsAt}
use Rattle.keyspace.specs.Databases.{Bases, means}
use Rattle.outside.specs.Counts.{Rose}
use Rattle.outside.specs.Files.{Files, ShelfSeen, Has}
use Rattle.rdb_grammar.specs.Files.{IsFile}
use Rattle.rdb_parts.specs.Leading.{Leads, between}
use Rattle.rdb_parts.specs.Shelves.{PutsAll, Loses}

-- the world that is saved: the keys that are there at the moment
abbrev pub saved : Bases → Blocks → ℕ → World
saved bases blocks moment = live (means 0 bases blocks) moment

-- how many keys the databases below a number have
unfoldable pub keys_below : ℕ → (ℕ → Database) → ℕ
keys_below zero bases = 0
keys_below (suc number) bases = keys_below number bases + len (bases number)

module _ (bases : Bases) (blocks : Blocks) (moment : ℕ) where
  -- what a database has is what stands at its item numbers below one
  pub record HasBelow (db at : ℕ) (base : Database) : Type 0 where
    pub got : (item : ℕ) (key : List ℕ) → item < at → StandsAt bases blocks db key moment item
        → get base key ≡ look (live (means db bases blocks) moment) key
    pub lacks : (key : List ℕ) → ((item : ℕ) → item < at → StandsAt bases blocks db key moment item → ⊥)
        → get base key ≡ None

  -- A world has the databases below one, and of that one what stands at item numbers below another, which are so many
  -- keys. It is selected, if there is one.
  pub record SavesTo (db at count : ℕ) (world : World) : Type 0 where
    pub before : (number : ℕ) → number < db → world.bases number ≡ (saved bases blocks moment).bases number
    pub part : HasBelow db at (world.bases db)
    pub behind : (number : ℕ) → db < number → world.bases number ≡ no_keys
    pub named : 0 < count → world.selected ≡ db
    pub counted : count ≡ len (world.bases db)

  -- the bytes are items that lead from a world that is saved so far to one that is saved further
  abbrev pub Saves : ℕ → ℕ → ℕ → ℕ → ℕ → ℕ → List ℕ → Type 0
  Saves db at count db' at' count' word = (old : World) → SavesTo db at count old
      → (new : World) × SavesTo db' at' count' new × Leads moment (between old) (between new) word

-- a file of the world is put behind the bytes of the name that is made
abbrev pub IsPut : ShelfSeen → ShelfSeen → ℕ → World → Type 0
IsPut old new moment world = (bytes : List ℕ) × PutsAll old new bytes × IsFile bytes moment world

-- the same, or the shelf failed
abbrev pub PutsFile : {T E : Type 0} → ShelfSeen → ShelfSeen → ℕ → World → Result T E → Type 0
PutsFile old new moment world (Ok x) = IsPut old new moment world
PutsFile old new moment world (Err e) = Loses old new

-- where it was told which bytes names have, the name has these now
abbrev pub HasNow : Files → Files → List ℕ → List ℕ → Type 0
HasNow None new name bytes = ⊤
HasNow (Some files) new name bytes = Has new name bytes

-- The name has a file of the world, where that is told.
pub record IsSaved (old new : Files) (name : List ℕ) (moment : ℕ) (world : World) : Type 0 where
  pub bytes : List ℕ
  pub has : HasNow old new name bytes
  pub file : IsFile bytes moment world

-- The name has a file of the world, and no fault was counted; or the shelf failed, which was counted.
abbrev pub SavedOr : {T E : Type 0} → ShelfSeen → ShelfSeen → List ℕ → ℕ → World → Result T E → Type 0
SavedOr old new name moment world (Ok x) = IsSaved old.files new.files name moment world × (new.faults ≡ old.faults)
SavedOr old new name moment world (Err e) = Rose old.faults new.faults
