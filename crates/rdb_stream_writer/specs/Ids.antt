-- The bytes of ids, and of parts behind their number (`rdb.c` of Redis 7.2: `rdbSaveLen`, `streamEncodeID`).
use Rattle.std.specs.Prelude.{ℕ, ◌<◌, ◌^◌, List, ◌++◌, length, flat_map}
use Rattle.std.specs.Int.{w64, to_be_bytes}
use Rattle.stream_groups.specs.Groups.{Id}
use Rattle.rdb_parts.specs.Words.{length_word}

-- sixteen bytes: milliseconds and sequence number, each with its highest byte first
abbrev pub id_word : Id → List ℕ
id_word id = to_be_bytes w64 id.0 ++ to_be_bytes w64 id.1

-- the same as two lengths
abbrev pub lengths_word : Id → List ℕ
lengths_word id = length_word id.0 ++ length_word id.1

-- how many parts, and they
abbrev pub counted_by : {A : Type 0} → (A → List ℕ) → List A → List ℕ
counted_by word_of xs = length_word (length xs) ++ flat_map word_of xs

-- both numbers of an id have 64 bits
abbrev pub IsStoredId : Id → Type 0
IsStoredId id = (id.0 < 2 ^ 64) × (id.1 < 2 ^ 64)
