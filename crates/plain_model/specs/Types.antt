-- The names of types (Redis command reference, "TYPE").
use Rattle.std.specs.Prelude.{ℕ, List, Option, None, Some, codes}
use Rattle.plain_world.specs.Worlds.{Value, Str, ListOf, SetOf, HashOf, SortedOf, StreamOf, Entry}

-- the name of a value's type
abbrev pub type_name : Value → List ℕ
type_name (Str bytes) = codes "string"
type_name (ListOf elements) = codes "list"
type_name (SetOf members) = codes "set"
type_name (HashOf fields) = codes "hash"
type_name (SortedOf scores) = codes "zset"
type_name (StreamOf stream) = codes "stream"

abbrev pub type_at : Option Entry → List ℕ
type_at None = codes "none"
type_at (Some entry) = type_name entry.value
