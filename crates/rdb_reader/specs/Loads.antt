-- What loading does: the file's world or its first fault.
use Rattle.std.specs.Prelude.{◌≡◌, ◌⊎◌, ℕ, zero, suc, ◌+◌, ◌<◌, ◌≤◌, List, [], ◌∷◌, length, None, Result, Ok, Err, true, false}
use Rattle.std.specs.FinMap.{len}
use Rattle.plain_world.specs.Worlds.{World, Database as Keys, Entry, Value, new_world, in_time, look, put, selecting}
use Rattle.rdb_grammar.specs.declared.fault.ItemFault.{ItemFault}
use Rattle.rdb_grammar.specs.declared.fault.ItemFault.TheVariants as items
use Rattle.rdb_grammar.specs.Items.{Item, Passed, Deadline, Database, End, Key, Opens, part, item}
use Rattle.rdb_grammar.specs.Places.{Stands, Fails}
use Rattle.rdb_grammar.specs.Files.{State, Reached, is_kept, IsFile, IsFault}
use Rattle.rdb_grammar.specs.declared.values.Layout.{Layout}
use Rattle.held.specs.Calls.{IsDeadline}
use Rattle.keyspace.specs.Scopes.{Scope, anything}
use Rattle.outside.specs.Files.{Files}
use Rattle.rdb_reader.specs.Named.{IsFileOf, IsLongFile, RefusesFile}
use Rattle.rdb_reader.specs.declared.fault.LoadFault.{LoadFault}
use Rattle.rdb_reader.specs.declared.fault.LoadFault.TheVariants as faults
use Rattle.rdb_reader.specs.declared.items.Progress.{Progress}
use Rattle.rdb_reader.specs.declared.items.Read.{Read}
use Rattle.rdb_reader.specs.declared.items.Read.TheVariants as read
use Rattle.rdb_reader.specs.declared.keys.Put.{Put}
use Rattle.rdb_reader.specs.declared.keys.Put.TheVariants as puts
use Rattle.rdb_reader.specs.declared.loading.Loaded.{Loaded}

-- how many keys the databases below a number have
unfoldable pub keys_below : ℕ → (ℕ → Keys) → ℕ
keys_below zero bases = 0
keys_below (suc number) bases = keys_below number bases + len (bases number)

-- how many items are keys
abbrev pub keys_of : Item → ℕ
keys_of Passed = 0
keys_of (Deadline n) = 0
keys_of (Database n) = 0
keys_of End = 0
keys_of (Key name value) = 1

abbrev pub keys_among : List Item → ℕ
keys_among [] = 0
keys_among (x ∷ xs) = keys_of x + keys_among xs

-- what is to become of a key: it is put, or passed over; or it was there before
abbrev pub IsFate : ℕ → World → List ℕ → Entry → Put → Type 0
IsFate moment old key entry puts.Kept = (look old key ≡ None) × (is_kept moment entry.deadline entry.value ≡ true)
IsFate moment old key entry puts.Passed = (look old key ≡ None) × (is_kept moment entry.deadline entry.value ≡ false)
IsFate moment old key entry puts.Twice = (look old key ≡ None) → ⊥

-- A key that wasn't there was put, or was passed over; or it was there.
abbrev pub Puts : ℕ → World → World → List ℕ → Entry → Put → Type 0
Puts moment old new key entry puts.Kept =
    (look old key ≡ None) × (is_kept moment entry.deadline entry.value ≡ true) × (new ≡ put old key entry)
Puts moment old new key entry puts.Passed =
    (look old key ≡ None) × (is_kept moment entry.deadline entry.value ≡ false) × (new ≡ old)
Puts moment old new key entry puts.Twice = (look old key ≡ None) → ⊥

-- what the items so far have made
abbrev pub state_at : World → Progress → State
state_at world so_far = record { world = selecting world so_far.db; deadline = so_far.deadline }

-- So far the bytes are a header and whole items, which lead to this world. Of their keys so many are kept, and the
-- others passed over.
pub record Holds (bytes : List ℕ) (moment : ℕ) (world : World) (so_far : Progress) : Type 0 where
  pub reached : Reached bytes moment so_far.at (state_at world so_far)
  pub items : so_far.keys + so_far.passed ≡ keys_among reached.items
  pub keys : so_far.keys ≡ keys_below 16 world.bases
  pub few : so_far.keys + so_far.passed ≤ so_far.at
  pub within : so_far.at ≤ length bytes
  pub selected : so_far.db < 16
  pub latest : IsDeadline so_far.deadline

-- the fault of an item, as one of loading
abbrev pub load_fault : ItemFault → LoadFault
load_fault items.Memory = faults.Memory
load_fault (items.Refused what place) = faults.Refused what place

-- The bytes are a file of the world. So many of its keys are kept, those of all databases, and the others passed over.
pub record IsRead (bytes : List ℕ) (moment : ℕ) (world : World) (loaded : Loaded) : Type 0 where
  pub file : IsFile bytes moment world
  pub keys : loaded.keys ≡ keys_below 16 world.bases
  pub passed : loaded.keys + loaded.passed ≡ keys_among file.reached.items

-- the next item is a key that is in time
pub record IsKept (bytes : List ℕ) (moment : ℕ) (so_far : Progress) : Type 0 where
  pub name : List ℕ
  pub value : Value
  pub next : ℕ
  pub stands : Stands item (Key name value) bytes so_far.at next
  pub in_time : in_time moment so_far.deadline ≡ true

-- the next item is a key with a collection, which is built before it is known whether the key is kept
pub record IsOpened (bytes : List ℕ) (so_far : Progress) : Type 0 where
  pub name : List ℕ
  pub layout : Layout
  pub next : ℕ
  pub stands : Stands part (Opens name layout) bytes so_far.at next

-- what is read of a key, up to a place: its value, and what became of it
pub record KeyRead (bytes : List ℕ) (moment : ℕ) (so_far : Progress) (old new : World) (name : List ℕ) (put : Put)
    (last : ℕ) : Type 0 where
  pub value : Value
  pub stands : Stands item (Key name value) bytes so_far.at last
  pub puts : Puts moment old new name (record { value = value; deadline = so_far.deadline }) put

-- A key is read. Memory is wanted for a string that is kept alone, and for a collection.
abbrev pub ReadsKey : List ℕ → ℕ → Progress → World → World → List ℕ → Result (Put × ℕ) LoadFault → Type 0
ReadsKey bytes moment so_far old new name (Ok x) = KeyRead bytes moment so_far old new name x.0 x.1
ReadsKey bytes moment so_far old new name (Err (faults.Refused what place)) = Fails item bytes so_far.at what place
ReadsKey bytes moment so_far old new name (Err faults.Host) = ⊥
ReadsKey bytes moment so_far old new name (Err faults.Limit) = ⊥
ReadsKey bytes moment so_far old new name (Err faults.Memory) = IsKept bytes moment so_far ⊎ IsOpened bytes so_far

-- the next item is read: memory is wanted for a string that is kept alone, and for a collection
abbrev pub ReadsItem : List ℕ → ℕ → Progress → World → World → Result Read LoadFault → Type 0
ReadsItem bytes moment old before after (Ok (read.More new)) = Holds bytes moment after new × (old.at < new.at)
ReadsItem bytes moment old before after (Ok read.End) =
    IsRead bytes moment after (record { keys = old.keys; passed = old.passed })
ReadsItem bytes moment old before after (Err (faults.Refused what place)) = IsFault bytes moment what place
ReadsItem bytes moment old before after (Err faults.Host) = ⊥
ReadsItem bytes moment old before after (Err faults.Limit) = ⊥
ReadsItem bytes moment old before after (Err faults.Memory) = IsKept bytes moment old ⊎ IsOpened bytes old

-- all items are read
abbrev pub ReadsAll : List ℕ → ℕ → World → Result Loaded LoadFault → Type 0
ReadsAll bytes moment new (Ok loaded) = IsRead bytes moment new loaded
ReadsAll bytes moment new (Err (faults.Refused what place)) = IsFault bytes moment what place
ReadsAll bytes moment new (Err faults.Host) = ⊥
ReadsAll bytes moment new (Err faults.Limit) = ⊥
ReadsAll bytes moment new (Err faults.Memory) = Unit {0}

-- the file's world is loaded
pub record LoadsFile (files : Files) (name : List ℕ) (limit moment : ℕ) (world : World) (loaded : Loaded) : Type 0 where
  pub bytes : List ℕ
  pub is : IsFileOf files name bytes
  pub few : length bytes ≤ limit
  pub read : IsRead bytes moment world loaded

-- any key may be written, and no database loses all its keys at once
abbrev pub any_key : Scope
any_key = record { touches = λ number. Unit {0}; writes = λ number key. Unit {0}; empties = λ number. ⊥ }

-- what a load may change: after a fault whatever there is
abbrev pub load_scope : {A : Type 0} → Result A LoadFault → Scope
load_scope (Ok loaded) = any_key
load_scope (Err fault) = anything

-- what `load` answers, and the world that it leaves: after a fault the new one
abbrev pub Loads : Files → List ℕ → ℕ → ℕ → World → Result Loaded LoadFault → Type 0
Loads files name limit moment world (Ok loaded) = LoadsFile files name limit moment world loaded
Loads files name limit moment world (Err (faults.Refused what at)) =
    RefusesFile files name limit moment what at × (world ≡ new_world)
Loads files name limit moment world (Err faults.Host) = world ≡ new_world
Loads files name limit moment world (Err faults.Limit) = IsLongFile files name limit × (world ≡ new_world)
Loads files name limit moment world (Err faults.Memory) = world ≡ new_world
