-- The bytes of a stream's groups (`rdb.c` of Redis 7.2: what `rdbSaveObject` writes of a stream's groups, and
-- `rdbSaveStreamPEL`).
use Rattle.std.specs.Prelude.{ℕ, ◌<◌, ◌^◌, List, ◌++◌}
use Rattle.std.specs.List.{AllByRecursion}
use Rattle.std.specs.FinMap.{entries, keys, len}
use Rattle.stream_groups.specs.Groups.{Id, Pending, Group, IsOwned}
use Rattle.rdb_parts.specs.Words.{length_word, string_word}
use Rattle.rdb_stream_writer.specs.Ids.{lengths_word, id_word, counted_by, IsStoredId}
use Rattle.rdb_stream_writer.specs.Consumers.{moment_word, consumer_word}

-- a pending entry of a group: its id, when it was handed out, and how often
abbrev pub pending_word : Id × Pending → List ℕ
pending_word e = id_word e.0 ++ (moment_word e.1.moment ++ length_word e.1.count)

-- a group: its name, its last id, 0 for how many entries it read, what is pending, and its consumers
abbrev pub group_word : ℕ → List ℕ × Group → List ℕ
group_word moment g =
    string_word g.0
    ++ (lengths_word g.1.last
    ++ (length_word 0
    ++ (counted_by pending_word (entries g.1.pending)
    ++ counted_by (consumer_word moment g.1.pending) (keys g.1.consumers))))

-- the numbers of a pending entry have 64 bits
pub record IsStoredEntry (e : Id × Pending) : Type 0 where
  pub id : IsStoredId e.0
  pub moment : e.1.moment < 2 ^ 64
  pub count : e.1.count < 2 ^ 64

-- The numbers of a group have 64 bits, and each pending entry is of one of its consumers.
pub record IsStoredGroup (g : List ℕ × Group) : Type 0 where
  pub last : IsStoredId g.1.last
  pub few_pending : len g.1.pending < 2 ^ 64
  pub few_consumers : len g.1.consumers < 2 ^ 64
  pub pending : AllByRecursion IsStoredEntry (entries g.1.pending)
  pub owned : IsOwned g.1
