-- How the table of the dictionary inside a value comes from those before.
use Rattle.std.specs.Prelude.{◌≡◌, ◌<◌, ℕ, List, Option, None, Some}
use Rattle.std.specs.FinMap.{len}
use Rattle.blocks.specs.Blocks.{Blocks, bytes_at}
use Rattle.plain_world.specs.Worlds.{World, Entry, Str, ListOf, SetOf, HashOf, SortedOf, StreamOf, look, live}
use Rattle.plain_world.specs.Worlds as model
use Rattle.plain_model.specs.declared.ctx.Ctx.{Ctx}
use Rattle.rehash_dict.specs.Tables.{Tables, IsSettled}
use Rattle.rehash_dict.specs.Grown.{Grown}
use Rattle.rehash_dict.specs.Keyed.{hash_of}
use Rattle.stored.specs.Owning.{no_tables}
use Rattle.held.specs.Table.{Element, item}
use Rattle.keyspace.specs.declared.value.Value.{Value}
use Rattle.keyspace.specs.Values.{value_tables}
use Rattle.held.specs.Calls.{AllAt}
use Rattle.keyspace.specs.Databases.{Bases, Keyspace, means, table_at}
use Rattle.keyspace.specs.Scopes.{Scope}

-- The tables come by inserts, removals and calls of `shrink` from none, or from those of a value whose key may be written.
pub data Derived (scope : Scope) (old : Bases) (m : Blocks) (now : Tables (List ℕ)) : Type 0 where
  from_none : Grown (hash_of old.seed) no_tables now → Derived scope old m now
  from_value : (db at : ℕ) (was : Element Value) → item (table_at old db) at ≡ Some was
      → scope.writes db (bytes_at m was.key) → Grown (hash_of old.seed) (value_tables m was.value) now
      → Derived scope old m now

-- The tables of a key's value are those that it had, or the key may be written, and they are derived.
pub data Inside (scope : Scope) (old : Bases) (m after : Blocks) (db : ℕ) (now : Element Value) : Type 0 where
  as_before : (at : ℕ) (was : Element Value) → item (table_at old db) at ≡ Some was
      → bytes_at m was.key ≡ bytes_at after now.key → value_tables after now.value ≡ value_tables m was.value
      → Inside scope old m after db now
  rewritten : scope.writes db (bytes_at after now.key) → Derived scope old m (value_tables after now.value)
      → Inside scope old m after db now

-- the same of every key
abbrev pub Insides : Scope → Bases → Bases → Blocks → Blocks → Type 0
Insides scope old new m after = (db at : ℕ) (element : Element Value) → item (table_at new db) at ≡ Some element
    → Inside scope old m after db element

-- how many elements a value has that may stand in a dictionary
abbrev pub size : model.Value → ℕ
size (Str bytes) = 0
size (ListOf list) = 0
size (SetOf members) = len members
size (HashOf fields) = len fields
size (SortedOf scores) = len scores
size (StreamOf stream) = 0

abbrev pub size_of : Option Entry → ℕ
size_of None = 0
size_of (Some entry) = size entry.value

-- how many of them stand at a key
abbrev pub size_at : World → List ℕ → ℕ
size_at world key = size_of (look world key)

-- a call of `shrink` would begin nothing in the tables where they have fewer elements than so many
abbrev pub SettledBelow : ℕ → ℕ → Tables (List ℕ) → Type 0
SettledBelow most count tables = count < most → IsSettled tables

-- a call of `shrink` would begin nothing in the tables of whatever value stands at the key
abbrev pub SettledAt : Bases → Blocks → ℕ → List ℕ → Type 0
SettledAt bases m db key = AllAt (λ value. IsSettled (value_tables m value)) bases m db key

-- Where the value at a key has fewer elements than before, its tables are settled.
abbrev pub SettlesAt : {S : Type 0} → (S → Blocks) → Keyspace S → Keyspace S → Ctx → List ℕ → Type 0
SettlesAt blocks old new at key = size_at (live (means at.db new.bases (blocks new.store)) at.moment) key
    < size_at (live (means at.db old.bases (blocks old.store)) at.moment) key → SettledAt new.bases (blocks new.store) at.db key
