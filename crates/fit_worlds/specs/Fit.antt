-- What a world needs to be written as an RDB file.
use Rattle.std.specs.Prelude.{◌≡◌, ℕ, ◌<◌, ◌≤◌, ◌^◌, List, length, ℤ, pos, negsuc, Option, Some, None}
use Rattle.std.specs.List.{AllByRecursion}
use Rattle.std.specs.FinMap.{FinMap, get, len}
use Rattle.std.specs.Cmp.Lexicographic.{slice_cmp}
use Rattle.std.specs.Ordering.{nat_cmp}
use Rattle.stream_groups.specs.Groups.{Group}
use Rattle.plain_world.specs.Words.{longest}
use Rattle.plain_world.specs.Streams.{Stream, StreamEntry}
use Rattle.plain_world.specs.Worlds.{World, Value, Str, ListOf, SetOf, HashOf, SortedOf, StreamOf, Entry}

-- a string of a file has at most 512 MiB (RDB file format, "String Encoding"; Redis configuration, "proto-max-bulk-len")
abbrev pub IsShort : List ℕ → Type 0
IsShort text = length text ≤ longest

abbrev pub AreShort : List (List ℕ) → Type 0
AreShort texts = AllByRecursion IsShort texts

-- two texts: a field and its value
abbrev pub IsShortPair : List ℕ × List ℕ → Type 0
IsShortPair pair = IsShort pair.0 × IsShort pair.1

-- each key of a finite map stands with what is so
abbrev pub EachIs : {X : Type 0} → (List ℕ → X → Type 0) → FinMap (slice_cmp nat_cmp) X → Type 0
EachIs {X} Is map = (key : List ℕ) (x : X) → get map key ≡ Some x → Is key x

-- a score that a binary number of 64 bits holds exactly: a whole one, of magnitude at most 2^53 (RDB file format, "Sorted
-- Set Encoding"; IEEE 754, "binary64")
abbrev pub IsScore : ℤ → Type 0
IsScore (pos n) = n ≤ 2 ^ 53
IsScore (negsuc n) = n < 2 ^ 53

-- an entry of a stream: each field and each value is short
abbrev pub HasShortPairs : StreamEntry → Type 0
HasShortPairs e = AllByRecursion IsShortPair e.pairs

-- a consumer group of a stream, with its name: the names are short, its own and those of its consumers
pub record IsFitGroup (name : List ℕ) (group : Group) : Type 0 where
  pub short : IsShort name
  pub consumers : EachIs (λ consumer nothing. IsShort consumer) group.consumers

-- a stream, which may be without an entry (RDB file format of Redis 7.2, `rdb.c`: type 21)
pub record IsFitStream (stream : Stream) : Type 0 where
  pub entries : AllByRecursion HasShortPairs stream.entries
  pub groups : EachIs IsFitGroup stream.groups

-- A value (RDB file format, "Value encodings"): a string; a list, a set, a hash or a sorted set, which isn't empty; a stream.
abbrev pub IsFitValue : Value → Type 0
IsFitValue (Str text) = IsShort text
IsFitValue (ListOf elements) = (0 < length elements) × AreShort elements
IsFitValue (SetOf members) = (0 < len members) × EachIs (λ member nothing. IsShort member) members
IsFitValue (HashOf fields) = (0 < len fields) × EachIs (λ field value. IsShort field × IsShort value) fields
IsFitValue (SortedOf scores) = (0 < len scores) × EachIs (λ member score. IsShort member × IsScore score) scores
IsFitValue (StreamOf stream) = IsFitStream stream

-- a deadline in milliseconds is a number of 64 bits with a sign (RDB file format, "Key expiry timestamp")
abbrev pub IsFitDeadline : Option ℕ → Type 0
IsFitDeadline None = Unit {0}
IsFitDeadline (Some deadline) = deadline < 2 ^ 63

-- a key with what stands at it (RDB file format, "Key-value pairs")
pub record IsFitKey (key : List ℕ) (entry : Entry) : Type 0 where
  pub short : IsShort key
  pub value : IsFitValue entry.value
  pub deadline : IsFitDeadline entry.deadline

-- A world that can be written: so is each key of each database with what stands there.
pub record IsFit (world : World) : Type 0 where
  pub each : (number : ℕ) → EachIs IsFitKey (world.bases number)
