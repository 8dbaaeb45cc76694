-- What the calls of a keyspace hand out.
use Rattle.std.specs.Prelude.{◌≡◌, ◌⊎◌, ℕ, ◌+◌, ◌<◌, ◌^◌, List, Option, None, Some, IfSome, IfNone, true}
use Rattle.blocks.specs.declared.BlockRef.{BlockRef}
use Rattle.blocks.specs.Blocks.{Blocks, Owned, times}
use Rattle.plain_world.specs.Worlds.{World, Entry, Value, look, put, live, in_time, deadline_of}
use Rattle.rehash_dict.specs.Keyed.{hash_of}
use Rattle.held.specs.declared.keyspace.Lifted.{Lifted}
use Rattle.held.specs.declared.seeking.Sought.{Sought}
use Rattle.held.specs.declared.seeking.SoughtAt.{SoughtAt}
use Rattle.std.specs.FinMap.{get}
use Rattle.expiry.specs.Timed.{Timed, moments, Grows, KeepsCursor}
use Rattle.expiry.specs.Changes.{Clears}
use Rattle.held.specs.Table.{Table, Element, item, value_at, Stands, Lacks, Adds, Keyed, TableGrows}
use Rattle.held.specs.Databases.{Bases, table_at, deadlines_at, with_deadline, means, ChangesBase, ChangesDeadlines}
use Rattle.held.specs.Sound.{Names, IsTimed}

module _ {V : Type 0} where
  -- an element of the database has this key and this value
  pub record HasValue (bases : Bases V) (blocks : Blocks) (db : ℕ) (key : List ℕ) (value : V) : Type 0 where
    pub at : ℕ
    pub element : Element V
    pub found : item (table_at bases db) at ≡ Some element
    pub bytes : blocks element.key ≡ Some key
    pub is : element.value ≡ value

  -- whatever stands at the key of the database is so
  abbrev pub AllAt : (V → Type 0) → Bases V → Blocks → ℕ → List ℕ → Type 0
  AllAt Is bases blocks db key = (at : ℕ) (element : Element V) → item (table_at bases db) at ≡ Some element
      → blocks element.key ≡ Some key → Is element.value

  -- whatever stands at the key of the database is this value
  abbrev pub HasOnly : Bases V → Blocks → ℕ → List ℕ → V → Type 0
  HasOnly bases blocks db key value = AllAt (λ is. is ≡ value) bases blocks db key

  -- The value is what stands at the key of the database at the moment, and its blocks are live.
  pub record Found (refs_of : Blocks → V → List BlockRef) (value_of : Blocks → V → Value) (bases : Bases V) (blocks : Blocks)
      (db : ℕ) (key : List ℕ) (moment : ℕ) (value : V) : Type 0 where
    pub deadline : Option ℕ
    pub stands : look (live (means value_of db bases blocks) moment) key
        ≡ Some (record { value = value_of blocks value; deadline = deadline })
    pub owned : Owned (refs_of blocks value) blocks
    pub has : HasValue bases blocks db key value

  -- the item number is the place of a key with these bytes and this deadline, or none
  pub record IsPlace (bases : Bases V) (blocks : Blocks) (db at : ℕ) (key : List ℕ) (deadline : Option ℕ) : Type 0 where
    pub element : Element V
    pub found : item (table_at bases db) at ≡ Some element
    pub bytes : blocks element.key ≡ Some key
    pub lasts : get (moments blocks (deadlines_at bases db)) key ≡ deadline

  -- in the place stands what stands there for a value that was taken out
  abbrev pub IsVacant : V → Bases V → ℕ → ℕ → Type 0
  IsVacant vacant bases db at = value_at (item (table_at bases db) at) ≡ Some vacant

  -- The value was taken out of the place of the key, at which the world had it.
  pub record Lifts (refs_of : Blocks → V → List BlockRef) (value_of : Blocks → V → Value) (empty : V) (old new : Bases V)
      (blocks : Blocks) (db : ℕ) (key : List ℕ) (moment : ℕ) (lifted : Lifted V) : Type 0 where
    pub same_db : lifted.db ≡ db
    pub deadline : Option ℕ
    pub stands : look (live (means value_of db old blocks) moment) key
        ≡ Some (record { value = value_of blocks lifted.value; deadline = deadline })
    pub owned : Owned (refs_of blocks lifted.value) blocks
    pub had : HasValue old blocks db key lifted.value
    pub vacant : IsVacant empty new db lifted.item
    pub place : IsPlace new blocks db lifted.item key deadline
    -- whatever is put at the key next, the world becomes what it would have become before
    pub back : (entry : Entry)
        → put (means value_of db new blocks) key entry ≡ put (means value_of db old blocks) key entry

-- the references `all` are those of `part` and those of `rest`
abbrev pub AreParts : List BlockRef → List BlockRef → List BlockRef → Type 0
AreParts all part rest = (r : BlockRef) → times r all ≡ times r part + times r rest

module _ {V : Type 0} where
  -- a key is there at the moment, at this item number
  pub record StandsAt (bases : Bases V) (blocks : Blocks) (db : ℕ) (key : List ℕ) (moment at : ℕ) : Type 0 where
    pub stands : Stands blocks (table_at bases db) at key
    pub in_time : in_time moment (get (moments blocks (deadlines_at bases db)) key) ≡ true

  -- what a search for a key found: its hash, and its item number where it has an element, whether it is gone or not
  pub record Seeks (bases : Bases V) (blocks : Blocks) (db : ℕ) (key : List ℕ) (sought : Sought) : Type 0 where
    pub hashed : sought.hash ≡ hash_of (table_at bases db).seed key
    pub stands : IfSome sought.item (λ at. Stands blocks (table_at bases db) at key)
    pub lacks : IfNone sought.item (Lacks blocks (table_at bases db) key)

  -- the deadline of a key that is to join stands already, where it has one
  pub record Begins (old mid : Bases V) (blocks : Blocks) (db : ℕ) (name : BlockRef) (key : List ℕ)
      (deadline : Option ℕ) : Type 0 where
    pub changes : ChangesDeadlines old mid db
    pub keyed : Keyed blocks (deadlines_at mid db).table
    pub seed : (deadlines_at mid db).table.seed ≡ (deadlines_at old db).table.seed
    pub times : moments blocks (deadlines_at mid db) ≡ with_deadline (moments blocks (deadlines_at old db)) key deadline
    pub grown : Grows blocks (deadlines_at old db) (deadlines_at mid db)
    pub cursor : KeepsCursor (deadlines_at old db) (deadlines_at mid db)
    -- where the key joins, each deadline is a key's
    pub joined : (keys : Table V) → Names keys name → Keyed blocks keys → IsTimed blocks keys (deadlines_at old db)
        → IsTimed blocks keys (deadlines_at mid db)
    -- where its deadline goes again, too
    pub undone : (new : Timed)
        → Clears blocks (deadlines_at mid db).table new.table key
        ⊎ ((new ≡ deadlines_at mid db) × Lacks blocks (deadlines_at mid db).table key) → Keyed blocks new.table
        → IsTimed blocks (table_at old db) new

  -- a key joined with its value and its deadline
  pub record Joins (old new : Bases V) (blocks : Blocks) (db : ℕ) (ref : BlockRef) (key : List ℕ) (value : V)
      (deadline : Option ℕ) : Type 0 where
    pub base : ChangesBase old new db
    pub at : ℕ
    pub hash : ℕ
    pub adds : Adds (table_at old db) (table_at new db) at (record { key = ref; hash = hash; value = value })
    pub keyed : Keyed blocks (table_at new db)
    pub timed : IsTimed blocks (table_at new db) (deadlines_at new db)
    pub seed : (deadlines_at new db).table.seed ≡ (deadlines_at old db).table.seed
    pub times : moments blocks (deadlines_at new db) ≡ with_deadline (moments blocks (deadlines_at old db)) key deadline
    pub keys_grown : TableGrows blocks (table_at old db) (table_at new db)
    pub grown : Grows blocks (deadlines_at old db) (deadlines_at new db)
    pub cursor : KeepsCursor (deadlines_at old db) (deadlines_at new db)

  -- the keys stay, and every deadline, whatever the tables of the deadlines do
  pub record KeepsTimes (old new : Bases V) (blocks : Blocks) (db : ℕ) : Type 0 where
    pub changes : ChangesDeadlines old new db
    pub timed : IsTimed blocks (table_at old db) (deadlines_at new db)
    pub seed : (deadlines_at new db).table.seed ≡ (deadlines_at old db).table.seed
    pub times : moments blocks (deadlines_at new db) ≡ moments blocks (deadlines_at old db)
    pub grown : Grows blocks (deadlines_at old db) (deadlines_at new db)
    pub cursor : KeepsCursor (deadlines_at old db) (deadlines_at new db)

-- something stands at the key, with this deadline or without one
pub record HasUntil (world : World) (key : List ℕ) (deadline : Option ℕ) : Type 0 where
  pub value : Value
  pub stands : look world key ≡ Some (record { value = value; deadline = deadline })

-- a deadline is at most 2^63 - 1
abbrev pub IsDeadline : Option ℕ → Type 0
IsDeadline deadline = IfSome deadline (λ d. d < 2 ^ 63)

-- What a search for a key and for its deadline found, and what is seen of the key at a moment: it is there, with this
-- deadline or without one, or it isn't. The deadline is told also where it is past.
pub record Sees {V : Type 0} (value_of : Blocks → V → Value) (bases : Bases V) (blocks : Blocks) (db : ℕ) (key : List ℕ)
    (moment : ℕ) (found : SoughtAt) : Type 0 where
  pub seeks : Seeks bases blocks db key found.sought
  pub timed : IfSome found.timed (λ at. Stands blocks (deadlines_at bases db).table at key)
  pub untimed : IfNone found.timed (Lacks blocks (deadlines_at bases db).table key)
  pub lasts : found.deadline ≡ deadline_of (look (means value_of db bases blocks) key)
  pub latest : IsDeadline found.deadline
  pub there : IfSome found.there (λ at. StandsAt bases blocks db key moment at)
  pub until : IfSome found.there (λ at. HasUntil (live (means value_of db bases blocks) moment) key found.deadline)
  pub gone : IfNone found.there (look (live (means value_of db bases blocks) moment) key ≡ None)
