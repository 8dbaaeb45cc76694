-- A whole file, and what it means (RDB file format, "High level algorithm to parse RDB").
use Rattle.std.specs.Prelude.{◌≡◌, ◌⊎◌, ℕ, Bool, true, false, Option, Some, None, is_none, List, [], ◌∷◌, length, take, Err, nat_eq, bytes_eq, codes, ◌||◌, ◌==◌, if◌then◌else◌}
use Rattle.std.specs.Cmp.Lexicographic.{pointwise}
use Rattle.std.specs.FinMap.{len}
use Rattle.std.specs.Int.{w64}
use Rattle.digests.specs.Crc.{crc_of}
use Rattle.plain_world.specs.Worlds.{World, Value, Str, ListOf, SetOf, HashOf, SortedOf, StreamOf, new_world, in_time, look, put}
use Rattle.rdb_grammar.specs.declared.fault.LoadKind.{LoadKind}
use Rattle.rdb_grammar.specs.declared.fault.LoadKind.TheVariants as kinds
use Rattle.rdb_grammar.specs.Format.{Format, some_bytes, followed, checked}
use Rattle.rdb_grammar.specs.Lengths.{number_le}
use Rattle.rdb_grammar.specs.Items.{Item, Passed, Deadline, Database, End, Key, item}
use Rattle.rdb_grammar.specs.Places.{Stands, Fails}

-- ---- the header

-- `REDIS`
abbrev pub magic_text : List ℕ
magic_text = 82 ∷ 69 ∷ 68 ∷ 73 ∷ 83 ∷ []

-- the first bytes, up to five, are those of `REDIS`
abbrev pub is_begun : List ℕ → Bool
is_begun bytes = pointwise nat_eq (take 5 bytes) (take (length bytes) magic_text)

-- `REDIS`; a beginning of it that the bytes end in is an ended file
abbrev pub magic : Format (List ℕ)
magic = record {
  read = λ bytes. if is_begun bytes then (some_bytes 5).read bytes else Err (kinds.NotRdb, length bytes);
  Spells = λ text word. (text ≡ magic_text) × (word ≡ magic_text);
  Faulty = λ bytes kind left.
      ((is_begun bytes ≡ true) × (some_bytes 5).Faulty bytes kind left)
      ⊎ ((is_begun bytes ≡ false) × (kind ≡ kinds.NotRdb) × (left ≡ length bytes));
}

-- `0009`, `0010` or `0011`
abbrev pub is_version : List ℕ → Bool
is_version text = bytes_eq text (codes "0009") || bytes_eq text (codes "0010") || bytes_eq text (codes "0011")

abbrev pub version : Format (List ℕ)
version = checked kinds.Version 0 is_version (some_bytes 4)

abbrev pub header : Format (List ℕ)
header = followed magic λ text. version

-- ---- what items mean

-- the world that the items so far have made, and the deadline that waits for the next key
pub record State : Type 0 where
  pub world : World
  pub deadline : Option ℕ

abbrev pub new_state : State
new_state = record { world = new_world; deadline = None }

-- a key that wasn't kept before in its database
abbrev pub is_fresh : State → Item → Bool
is_fresh state Passed = true
is_fresh state (Deadline n) = true
is_fresh state (Database n) = true
is_fresh state End = true
is_fresh state (Key name value) = is_none (look state.world name)

abbrev pub is_end : Item → Bool
is_end Passed = false
is_end (Deadline n) = false
is_end (Database n) = false
is_end End = true
is_end (Key name value) = false

-- a collection without an element; a stream is kept without one
abbrev pub is_void : Value → Bool
is_void (Str text) = false
is_void (ListOf elements) = length elements == 0
is_void (SetOf members) = len members == 0
is_void (HashOf fields) = len fields == 0
is_void (SortedOf scores) = len scores == 0
is_void (StreamOf stream) = false

-- a key is kept unless its value is such a collection, or the moment is past its deadline
abbrev pub is_kept : ℕ → Option ℕ → Value → Bool
is_kept moment deadline value = if is_void value then false else in_time moment deadline

-- a key that isn't kept is passed over
abbrev pub with_key : ℕ → State → List ℕ → Value → World
with_key moment state name value =
    if is_kept moment state.deadline value then put state.world name (record { value = value; deadline = state.deadline })
    else state.world

-- what an item makes of the state
abbrev pub after : ℕ → State → Item → State
after moment state Passed = state
after moment state (Deadline n) = record { world = state.world; deadline = Some n }
after moment state (Database n) =
    record { world = record { bases = state.world.bases; selected = n }; deadline = state.deadline }
after moment state End = state
after moment state (Key name value) = record { world = with_key moment state name value; deadline = None }

-- the world of a whole file: clients begin at database 0
abbrev pub file_world : State → World
file_world state = record { bases = state.world.bases; selected = 0 }

-- ---- the file

-- an item that may stand behind those before it; a key that was kept before is a fault at the key's string
abbrev pub next_in : State → Format Item
next_in state = checked kinds.DuplicateKey 1 (is_fresh state) item

-- these items stand one behind the other between two places, none of them the end, and lead from a state to another
unfoldable pub Items : List ℕ → ℕ → List Item → ℕ → State → ℕ → State → Type 0
Items bytes moment [] at old to new = (to ≡ at) × (new ≡ old)
Items bytes moment (x ∷ xs) at old to new =
    (next : ℕ) × Stands (next_in old) x bytes at next × (is_end x ≡ false)
    × Items bytes moment xs next (after moment old x) to new

-- up to this place the bytes are a header and whole items, which lead to this state
pub record Reached (bytes : List ℕ) (moment at : ℕ) (state : State) : Type 0 where
  pub version : List ℕ
  pub first : ℕ
  pub items : List Item
  pub begun : Stands header version bytes 0 first
  pub itemised : Items bytes moment items first new_state at state

-- zero, or the CRC-64 of all that stands before it
abbrev pub is_sum : List ℕ → ℕ → Bool
is_sum before n = if n == 0 then true else n == crc_of 0 before

abbrev pub sum_field : List ℕ → Format ℕ
sum_field before = checked kinds.Checksum 0 (is_sum before) (number_le w64)

-- The bytes are a file of the world, loaded at the moment: a header, items, the end, a checksum field, and any rest.
pub record IsFile (bytes : List ℕ) (moment : ℕ) (world : World) : Type 0 where
  pub at : ℕ
  pub state : State
  pub ended : ℕ
  pub sum : ℕ
  pub next : ℕ
  pub reached : Reached bytes moment at state
  pub ends : Stands item End bytes at ended
  pub summed : Stands (sum_field (take ended bytes)) sum bytes ended next
  pub means : world ≡ file_world state

-- the first faulty part: the header, an item, or the checksum field
pub data IsFault (bytes : List ℕ) (moment : ℕ) (kind : LoadKind) (place : ℕ) : Type 0 where
  InHeader : Fails header bytes 0 kind place → IsFault bytes moment kind place
  InItem : (at : ℕ) (state : State) → Reached bytes moment at state → Fails (next_in state) bytes at kind place
      → IsFault bytes moment kind place
  InSum : (at ended : ℕ) (state : State) → Reached bytes moment at state → Stands item End bytes at ended
      → Fails (sum_field (take ended bytes)) bytes ended kind place → IsFault bytes moment kind place

-- a file of one world and one list of items, or of one first fault
pub record ExactlyOne (bytes : List ℕ) (moment : ℕ) : Type 0 where
  pub either : ((world : World) × IsFile bytes moment world)
      ⊎ ((kind : LoadKind) × (place : ℕ) × IsFault bytes moment kind place)
  pub not_both : (world : World) (kind : LoadKind) (place : ℕ) → IsFile bytes moment world
      → IsFault bytes moment kind place → ⊥
  pub one_world : (a b : World) → IsFile bytes moment a → IsFile bytes moment b → a ≡ b
  pub one_list : (a b : World) (f : IsFile bytes moment a) (g : IsFile bytes moment b)
      → f.reached.items ≡ g.reached.items
  pub one_fault : (k l : LoadKind) (m n : ℕ) → IsFault bytes moment k m → IsFault bytes moment l n → (k ≡ l) × (m ≡ n)
