-- The value of a stream (Redis command reference, data type Streams: an append-only log of entries, each with an id and
-- pairs of a field and a value).
use Rattle.std.specs.Prelude.{ℕ, List}
use Rattle.stream_groups.specs.Groups.{Id, Groups}

-- an entry: its id, and its fields with their values in their order
pub record StreamEntry : Type 0 where
  pub id : Id
  pub pairs : List (List ℕ × List ℕ)

-- a stream: its entries by rising id, the last id that was added, the greatest id that was deleted, the number of
-- entries that were added, which counts modulo 2^64, and its consumer groups
pub record Stream : Type 0 where
  pub entries : List StreamEntry
  pub last : Id
  pub deleted : Id
  pub added : ℕ
  pub groups : Groups
