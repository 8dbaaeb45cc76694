-- The bytes of a group's consumers (`rdb.c` of Redis 7.2: `rdbSaveStreamConsumers`).
use Rattle.std.specs.Prelude.{ℕ, List, ◌++◌, None}
use Rattle.std.specs.Int.{w64, to_le_bytes}
use Rattle.stream_groups.specs.Groups.{Pendings, own_ids}
use Rattle.rdb_parts.specs.Words.{string_word}
use Rattle.rdb_stream_writer.specs.Ids.{id_word, counted_by}

-- a moment in milliseconds, its lowest byte first
abbrev pub moment_word : ℕ → List ℕ
moment_word moment = to_le_bytes w64 moment

-- a consumer: its name, when it was seen and when it was active, and the ids that are pending for it
abbrev pub consumer_word : ℕ → Pendings → List ℕ → List ℕ
consumer_word moment pending name =
    string_word name
    ++ (moment_word moment ++ (moment_word moment ++ counted_by id_word (own_ids pending name None)))
