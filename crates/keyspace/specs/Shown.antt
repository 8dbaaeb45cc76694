-- What a reply shows of the tables and values that stand, beside what the world fixes, and what a command leaves of them.
use Rattle.std.specs.Prelude.{◌≡◌, ◌<◌, ℕ, List, [], ◌∷◌, map, Bool, true, false, nat_lt, pos, None}
use Rattle.std.specs.List.{filter, range_with_len}
use Rattle.blocks.specs.Blocks.{Blocks}
use Rattle.blocks.specs.Slabs.{Heap, size_of, slabs_of, used_of}
use Rattle.rehash_dict.specs.Table.{Table}
use Rattle.rehash_dict.specs.Scan.{scanned}
use Rattle.scan_cursor.specs.Page.{scan_list}
use Rattle.plain_world.specs.Worlds.{live, live_keys, look, with_base, no_keys}
use Rattle.keyspace.specs.Worlds.{emptied}
use Rattle.plain_world.specs.declared.reply.Part.{Part}
use Rattle.plain_world.specs.declared.reply.Part.TheVariants.{Number, Bulk, Null}
use Rattle.plain_model.specs.ConnectionSteps.{ClassSlabs, slab_table}
use Rattle.plain_model.specs.Scans.{Sought, Passes, keys_sought, paged}
use Rattle.plain_model.specs.declared.command.Command.{Command}
use Rattle.plain_model.specs.declared.command.Command.TheVariants.{Strings, Lists, Sets, Hashes, Zsets, Streams, Keys, Connection}
use Rattle.plain_model.specs.declared.set_command.SetCommand.{SetCommand}
use Rattle.plain_model.specs.declared.set_command.SetCommand.TheVariants as sets
use Rattle.plain_model.specs.declared.hash_command.HashCommand.{HashCommand}
use Rattle.plain_model.specs.declared.hash_command.HashCommand.TheVariants as hashes
use Rattle.plain_model.specs.declared.zset_command.ZsetCommand.{ZsetCommand}
use Rattle.plain_model.specs.declared.zset_command.ZsetCommand.TheVariants as zsets
use Rattle.plain_model.specs.declared.keys.KeyCommand.{KeyCommand}
use Rattle.plain_model.specs.declared.keys.KeyCommand.TheVariants as keys
use Rattle.plain_model.specs.declared.keys.ScanOptions.{ScanOptions}
use Rattle.plain_model.specs.declared.connection.ConnectionCommand.{ConnectionCommand}
use Rattle.plain_model.specs.declared.connection.ConnectionCommand.TheVariants as connection
use Rattle.plain_model.specs.declared.ctx.Ctx.{Ctx}
use Rattle.held.specs.Calls as held
use Rattle.held.specs.Rehash.{Rehashed}
use Rattle.keyspace.specs.Databases.{Bases, Keyspace, means, table_at}
use Rattle.keyspace.specs.Values.{value_of, value_refs, IsEncodedAs}
use Rattle.keyspace.specs.declared.value.Value.{Value}
use Rattle.keyspace.specs.Pages.{IsValuePage}
use Rattle.keyspace.specs.Insides.{SettlesAt}
pub use Rattle.keyspace.specs.Sifted.{Sifted, end, keeps, drops}

-- ---- SCAN

-- a key stands at the item number at the moment, and MATCH and TYPE let it pass
pub record PassesAt (bases : Bases) (m : Blocks) (at : Ctx) (sought : Sought) (item : ℕ) (key : List ℕ) : Type 0 where
  pub stands : held.StandsAt bases m at.db key at.moment item
  pub passes : Passes (live (means at.db bases m) at.moment) sought key

-- the item numbers of a move over a table, and the cursor behind it
abbrev pub move_at : Table Value → ℕ → List ℕ
move_at t cursor = (scanned t.older t.newer cursor).0

abbrev pub after : Table Value → ℕ → ℕ
after t cursor = (scanned t.older t.newer cursor).1

-- The page is that of the key table as it stands: its moves until enough keys were met, without those that are gone, or
-- that MATCH or TYPE drop.
pub record IsTablePage (bases : Bases) (m : Blocks) (at : Ctx) (cursor : ℕ) (options : ScanOptions) (reply : List Part)
    : Type 0 where
  pub items : List ℕ
  pub next : ℕ
  pub names : List (List ℕ)
  pub moves : scan_list (move_at (table_at bases at.db)) (after (table_at bases at.db)) cursor options.count
      ≡ (items, next)
  pub sifted : Sifted (PassesAt bases m at (keys_sought at.db options)) items names
  pub is : reply ≡ paged next names

-- ---- OBJECT ENCODING

-- the name of the encoding of the value that stands at the key
pub data IsActual (bases : Bases) (m : Blocks) (at : Ctx) (key : List ℕ) (reply : List Part) : Type 0 where
  nothing : look (live (means at.db bases m) at.moment) key ≡ None → reply ≡ Null ∷ [] → IsActual bases m at key reply
  encoded : (value : Value) (name : List ℕ) → held.Found value_refs value_of bases m at.db key at.moment value
      → IsEncodedAs m value name → reply ≡ Bulk name ∷ [] → IsActual bases m at key reply

-- ---- DEBUG REHASH

-- so many steps were made, and the reply says how many found a table
pub record IsRehashed {S : Type 0} (blocks : S → Blocks) (steps : ℕ) (old new : Keyspace S) (reply : List Part)
    : Type 0 where
  pub found : ℕ
  pub tables : Rehashed (blocks old.store) steps found old.bases new.bases
  pub store : new.store ≡ old.store
  pub is : reply ≡ Number (pos found) ∷ []

-- ---- DBSIZE, FLUSHDB, FLUSHALL

module _ {S : Type 0} (blocks : S → Blocks) (old new : Keyspace S) (at : Ctx) where
  -- just the keys of the selected database that are gone have left it
  abbrev pub IsPurged : Type 0
  IsPurged =
      let was = means at.db old.bases (blocks old.store) in
      means at.db new.bases (blocks new.store) ≡ with_base was (live_keys (was.bases at.db) at.moment)

  -- the selected database has no key, gone or not
  abbrev pub IsEmptied : Type 0
  IsEmptied = means at.db new.bases (blocks new.store) ≡ emptied (means at.db old.bases (blocks old.store))

  -- no database has a key, gone or not
  abbrev pub AreEmptied : Type 0
  AreEmptied = (number : ℕ) → number < 16 → (means at.db new.bases (blocks new.store)).bases number ≡ no_keys

-- ---- MEMORY SLABS

-- what stands in the slabs of a class
abbrev pub class_slabs : Heap → ℕ → ClassSlabs
class_slabs heap class = record { size = size_of class; slabs = slabs_of heap class; used = used_of heap class }

abbrev pub has_slab : ClassSlabs → Bool
has_slab class = nat_lt 0 class.slabs

-- the classes that have a slab, of all 36
abbrev pub used_classes : Heap → List ClassSlabs
used_classes heap = filter has_slab (map (class_slabs heap) (range_with_len 0 36))

-- the reply lists the slabs of the store as they stand
abbrev pub ListsSlabs : Heap → List Part → Type 0
ListsSlabs heap reply = reply ≡ slab_table (used_classes heap)

-- ---- each command

abbrev pub key_shown : Bases → Blocks → Ctx → KeyCommand → List Part → Type 0
key_shown bases m at (keys.ObjectEncoding key) reply = IsActual bases m at key reply
key_shown bases m at (keys.Scan cursor options) reply = IsTablePage bases m at cursor options reply
key_shown bases m at other reply = Unit {0}

abbrev pub connection_shown : {S : Type 0} → (S → Blocks) → Keyspace S → Keyspace S → Ctx → ConnectionCommand → List Part
    → Type 0
connection_shown blocks old new at (connection.DebugRehash steps) reply = IsRehashed blocks steps old new reply
connection_shown blocks old new at connection.DbSize reply = IsPurged blocks old new at
connection_shown blocks old new at connection.FlushDb reply = IsEmptied blocks old new at
connection_shown blocks old new at connection.FlushAll reply = AreEmptied blocks old new at
connection_shown blocks old new at other reply = Unit {0}

-- what takes elements out of a value leaves its tables settled
abbrev pub set_shown : {S : Type 0} → (S → Blocks) → Keyspace S → Keyspace S → Ctx → SetCommand → List Part → Type 0
set_shown blocks old new at (sets.SRem key others) reply = SettlesAt blocks old new at key
set_shown blocks old new at (sets.SMove from to member) reply = SettlesAt blocks old new at from
set_shown blocks old new at (sets.SPop key n) reply = SettlesAt blocks old new at key
set_shown blocks old new at (sets.SScan key cursor options) reply =
    IsValuePage old.bases (blocks old.store) at key cursor options false reply
set_shown blocks old new at other reply = Unit {0}

abbrev pub hash_shown : {S : Type 0} → (S → Blocks) → Keyspace S → Keyspace S → Ctx → HashCommand → List Part → Type 0
hash_shown blocks old new at (hashes.HDel key others) reply = SettlesAt blocks old new at key
hash_shown blocks old new at (hashes.HScan key cursor options) reply =
    IsValuePage old.bases (blocks old.store) at key cursor options true reply
hash_shown blocks old new at other reply = Unit {0}

abbrev pub zset_shown : {S : Type 0} → (S → Blocks) → Keyspace S → Keyspace S → Ctx → ZsetCommand → List Part → Type 0
zset_shown blocks old new at (zsets.ZRem key members) reply = SettlesAt blocks old new at key
zset_shown blocks old new at (zsets.ZRemRangeByRank key a b) reply = SettlesAt blocks old new at key
zset_shown blocks old new at (zsets.ZRemRangeByScore key min max) reply = SettlesAt blocks old new at key
zset_shown blocks old new at (zsets.ZPop key from n) reply = SettlesAt blocks old new at key
zset_shown blocks old new at (zsets.ZScan key cursor options) reply =
    IsValuePage old.bases (blocks old.store) at key cursor options true reply
zset_shown blocks old new at other reply = Unit {0}

-- what the reply to a command shows of tables and values as they stand, which keys it leaves, gone or not, and which
-- tables settled
abbrev pub Shows : {S : Type 0} → (S → Blocks) → Keyspace S → Keyspace S → Ctx → Command → List Part → Type 0
Shows blocks old new at (Strings command) reply = Unit {0}
Shows blocks old new at (Lists command) reply = Unit {0}
Shows blocks old new at (Sets command) reply = set_shown blocks old new at command reply
Shows blocks old new at (Hashes command) reply = hash_shown blocks old new at command reply
Shows blocks old new at (Zsets command) reply = zset_shown blocks old new at command reply
Shows blocks old new at (Streams command) reply = Unit {0}
Shows blocks old new at (Keys command) reply = key_shown old.bases (blocks old.store) at command reply
Shows blocks old new at (Connection command) reply = connection_shown blocks old new at command reply
