-- Rehash steps of the databases.
use Rattle.std.specs.Prelude.{◌≡◌, ℕ, ◌+◌, ◌<◌, ◌≤◌, Bool, true, false, List}
use Rattle.object_codec.specs.declared.limits.Limits.{Limits}
use Rattle.blocks.specs.declared.BlockRef.{BlockRef}
use Rattle.blocks.specs.Blocks.{Blocks}
use Rattle.rehash_dict.specs.Tables.{is_rehashing, rehashed}
use Rattle.rehash_dict.specs.Table.{tables}
use Rattle.rehash_dict.specs.Keyed.{hash_of, key_tables}
use Rattle.expiry.specs.Timed.{KeepsCursor}
use Rattle.plain_world.specs.Worlds.{Value}
use Rattle.held.specs.Table.{Table}
use Rattle.held.specs.Databases.{Bases, table_at, deadlines_at, means, SameSettings, ChangesTable, ChangesDeadlines}
use Rattle.held.specs.Sound.{IsArranged, SoundBeside}

-- the lowest number of which this holds
pub record IsLowest (holds : ℕ → Bool) (number : ℕ) : Type 0 where
  pub here : holds number ≡ true
  pub lower : (other : ℕ) → other < number → holds other ≡ false

-- the table makes one rehash step, and all elements keep their item numbers
pub record StepsTable {V : Type 0} (blocks : Blocks) (old new : Table V) : Type 0 where
  pub tables : key_tables blocks new ≡ rehashed (hash_of old.seed) (key_tables blocks old) 1
  pub items : new.items ≡ old.items
  pub top : new.top ≡ old.top

module _ {V : Type 0} where
  -- a rehash is going on in a database's key table
  abbrev pub keys_move : Bases V → ℕ → Bool
  keys_move bases db = is_rehashing (tables (table_at bases db))

  -- the same of its deadlines
  abbrev pub deadlines_move : Bases V → ℕ → Bool
  deadlines_move bases db = is_rehashing (tables (deadlines_at bases db).table)

  -- The databases stay in order, mean what they meant, and own what they owned.
  pub record Preserves (refs_of : Blocks → V → List BlockRef) (value_of : Blocks → V → Value)
      (IsSound : Limits → ℕ → Blocks → V → Type 0) (m : Blocks) (old new : Bases V) : Type 0 where
    pub arranged : IsArranged IsSound new m
    pub means : (number : ℕ) → means value_of number new m ≡ means value_of number old m
    pub sound : (out : List BlockRef) → SoundBeside refs_of IsSound old m out → SoundBeside refs_of IsSound new m out
    pub settings : SameSettings old new

  -- A rehash step goes to the lowest database whose key table is in a rehash, or else to the lowest whose deadlines
  -- are. Nothing else changes.
  pub data Rehashes (blocks : Blocks) (old new : Bases V) : Type 0 where
    of_keys : (db : ℕ) → IsLowest (keys_move old) db → ChangesTable old new db
        → StepsTable blocks (table_at old db) (table_at new db) → Rehashes blocks old new
    of_deadlines : (db : ℕ) → ((number : ℕ) → keys_move old number ≡ false) → IsLowest (deadlines_move old) db
        → ChangesDeadlines old new db
        → StepsTable blocks (deadlines_at old db).table (deadlines_at new db).table
        → KeepsCursor (deadlines_at old db) (deadlines_at new db) → Rehashes blocks old new

  -- so many steps, one after the other
  pub data Steps (blocks : Blocks) (old : Bases V) : ℕ → Bases V → Type 0 where
    start : Steps blocks old 0 old
    more : (count : ℕ) (mid new : Bases V) → Steps blocks old count mid → Rehashes blocks mid new
        → Steps blocks old (count + 1) new

  -- no table is in a rehash
  pub record AreStill (bases : Bases V) : Type 0 where
    pub keys : (db : ℕ) → keys_move bases db ≡ false
    pub deadlines : (db : ℕ) → deadlines_move bases db ≡ false

  -- no table is in a rehash where none is said to stir
  abbrev pub IsAware : Bool → Bases V → Type 0
  IsAware stirs bases = stirs ≡ false → AreStill bases

  -- Of the steps that are asked for so many find a table: all of them, or as many as there is one in a rehash.
  pub record Rehashed (blocks : Blocks) (asked found : ℕ) (old new : Bases V) : Type 0 where
    pub steps : Steps blocks old found new
    pub few : found ≤ asked
    pub ended : found < asked → AreStill new
