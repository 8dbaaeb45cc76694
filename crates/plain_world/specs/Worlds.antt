-- What a server holds (Redis command reference, "Data types", "SELECT", "EXPIRE").
use Rattle.std.specs.Prelude.{◌==◌, ℕ, ◌-◌, ◌^◌, List, Option, None, Some, Bool, true, false, nat_le, if◌then◌else◌, ℤ}
use Rattle.std.specs.FinMap.{FinMap, empty, get, insert, retain_keys}
use Rattle.std.specs.FinMap as map
use Rattle.std.specs.Cmp.Lexicographic.{slice_cmp}
use Rattle.std.specs.Ordering.{nat_cmp}
use Rattle.plain_world.specs.Streams.{Stream}

-- a value: a string; a list; a set, which is a finite map that has nothing at each member; a hash, which is a finite
-- map from fields to values; a sorted set, which is a finite map from members to whole scores; a stream
pub data Value : Type 0 where
  Str : List ℕ → Value
  ListOf : List (List ℕ) → Value
  SetOf : FinMap (slice_cmp nat_cmp) (Unit {0}) → Value
  HashOf : FinMap (slice_cmp nat_cmp) (List ℕ) → Value
  SortedOf : FinMap (slice_cmp nat_cmp) ℤ → Value
  StreamOf : Stream → Value

-- what stands at a key: its value, and a deadline in milliseconds where it has one
pub record Entry : Type 0 where
  pub value : Value
  pub deadline : Option ℕ

-- a finite map from keys to what stands there
abbrev pub Database : Type 0
Database = FinMap (slice_cmp nat_cmp) Entry

-- the greatest moment in milliseconds
abbrev pub latest : ℕ
latest = 2 ^ 63 - 1

-- the databases by their numbers, 0 to 15, and the one that commands use
pub record World : Type 0 where
  pub bases : ℕ → Database
  pub selected : ℕ

abbrev pub no_keys : Database
no_keys = empty

-- a server that was just begun
abbrev pub new_world : World
new_world = record { bases = λ number. no_keys; selected = 0 }

-- no deadline, or one that the moment is not past
abbrev pub in_time : ℕ → Option ℕ → Bool
in_time moment None = true
in_time moment (Some deadline) = nat_le moment deadline

-- something stands there, and is not gone at the moment
abbrev pub is_there : ℕ → Option Entry → Bool
is_there moment None = false
is_there moment (Some entry) = in_time moment entry.deadline

-- the database without the keys that are gone
abbrev pub live_keys : Database → ℕ → Database
live_keys base moment = retain_keys base (λ key. is_there moment (get base key))

-- the world without the keys that are gone
abbrev pub live : World → ℕ → World
live world moment = record { bases = λ number. live_keys (world.bases number) moment; selected = world.selected }

-- what stands at a key of the selected database
abbrev pub look : World → List ℕ → Option Entry
look world key = get (world.bases world.selected) key

-- the world with this database in the place of the selected one
abbrev pub with_base : World → Database → World
with_base world base =
    record {
      bases = λ number. if number == world.selected then base
          else world.bases number;
      selected = world.selected;
    }

-- the world in which this stands at a key of the selected database
abbrev pub put : World → List ℕ → Entry → World
put world key entry = with_base world (insert (world.bases world.selected) key entry)

-- the world in which nothing stands at a key of the selected database
abbrev pub remove : World → List ℕ → World
remove world key = with_base world (map.remove (world.bases world.selected) key)

-- the world in which this stands at a key of the selected database, unless it is gone at the moment already
abbrev pub stand : World → ℕ → List ℕ → Entry → World
stand world moment key entry = if in_time moment entry.deadline then put world key entry else remove world key

-- the deadline of what stands at a key
abbrev pub deadline_of : Option Entry → Option ℕ
deadline_of None = None
deadline_of (Some entry) = entry.deadline

-- the world with another database selected
abbrev pub selecting : World → ℕ → World
selecting world number = record { bases = world.bases; selected = number }

-- what stands at a key of a database
abbrev pub look_in : World → ℕ → List ℕ → Option Entry
look_in world number key = look (selecting world number) key

-- the world in which this stands at a key of a database
abbrev pub put_in : World → ℕ → List ℕ → Entry → World
put_in world number key entry = selecting (put (selecting world number) key entry) world.selected
