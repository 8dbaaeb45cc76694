-- The bytes of a stream (`rdb.c` of Redis 7.2: `RDB_TYPE_STREAM_LISTPACKS_3`, which is type 21).
use Rattle.std.specs.Prelude.{ℕ, ◌<◌, ◌^◌, List, [], ◌∷◌, ◌++◌, length}
use Rattle.std.specs.FinMap.{entries}
use Rattle.stream_groups.specs.Groups.{Id}
use Rattle.plain_world.specs.Streams.{Stream, StreamEntry}
use Rattle.plain_world.specs.Worlds.{StreamOf}
use Rattle.stream_object.specs.Parts.{Part}
use Rattle.rdb_grammar.specs.declared.values.StreamType.TheVariants as types
use Rattle.rdb_grammar.specs.StreamParts.{stream}
use Rattle.rdb_parts.specs.Words.{length_word}
use Rattle.rdb_stream_writer.specs.Ids.{lengths_word, counted_by, IsStoredId}
use Rattle.rdb_stream_writer.specs.Groups.{group_word}
use Rattle.rdb_stream_writer.specs.Nodes.{node_word}

-- the id of the first entry, or 0-0
abbrev pub first_of : List StreamEntry → Id
first_of [] = (0, 0)
first_of (e ∷ es) = e.id

-- numbers of a stream: how many entries there are, the last id, the first one, the greatest deleted one, and how many entries were added
abbrev pub numbers_word : ℕ → Id → Id → Id → ℕ → List ℕ
numbers_word count last first deleted added =
    length_word count ++ (lengths_word last ++ (lengths_word first ++ (lengths_word deleted ++ length_word added)))

-- the marks of a stream
abbrev pub marks_word : Stream → List ℕ
marks_word s = numbers_word (length s.entries) s.last (first_of s.entries) s.deleted s.added

-- A stream with these nodes: the nodes, the marks, and the groups. The moment is that at which each consumer was seen and
-- active, in milliseconds.
abbrev pub stream_word : ℕ → List Part → Stream → List ℕ
stream_word moment nodes s =
    counted_by node_word nodes ++ (marks_word s ++ counted_by (group_word moment) (entries s.groups))

-- The numbers have 64 bits.
pub record AreStoredNumbers (count : ℕ) (last first deleted : Id) (added : ℕ) : Type 0 where
  pub count_fits : count < 2 ^ 64
  pub last_fits : IsStoredId last
  pub first_fits : IsStoredId first
  pub deleted_fits : IsStoredId deleted
  pub added_fits : added < 2 ^ 64

abbrev pub AreStoredMarks : Stream → Type 0
AreStoredMarks s = AreStoredNumbers (length s.entries) s.last (first_of s.entries) s.deleted s.added

-- these bytes, all of them, are the stream as a value of type 21, behind its key
abbrev pub SpellsStream : Stream → List ℕ → Type 0
SpellsStream s word = (stream types.Third).Spells (StreamOf s) word
