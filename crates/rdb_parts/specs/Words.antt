-- The bytes of the parts that are written (RDB file format, "Length encoding", "String encoding", "Value encodings").
use Rattle.std.specs.Prelude.{ℕ, Bool, true, false, ◌+◌, ◌/◌, ◌%◌, ◌^◌, List, [], ◌∷◌, ◌++◌, length, flat_map, nat_lt, codes, Option, None, Some, if◌then◌else◌}
use Rattle.std.specs.Int.{w32, w64, to_be_bytes, to_le_bytes}
use Rattle.digests.specs.Crc.{crc_of}
use Rattle.rdb_grammar.specs.Codes as code

-- a length in its shortest form
abbrev pub length_word : ℕ → List ℕ
length_word n =
    if nat_lt n 64 then n ∷ []
    else if nat_lt n 16384 then (64 + n / 256) ∷ n % 256 ∷ []
    else if nat_lt n (2 ^ 32) then 128 ∷ to_be_bytes w32 n
    else 129 ∷ to_be_bytes w64 n

-- a string: its length and its bytes
abbrev pub string_word : List ℕ → List ℕ
string_word text = length_word (length text) ++ text

-- strings one behind the other
abbrev pub strings_word : List (List ℕ) → List ℕ
strings_word texts = flat_map string_word texts

-- how many strings, and they
abbrev pub counted_word : List (List ℕ) → List ℕ
counted_word texts = length_word (length texts) ++ strings_word texts

-- the deadline of the next key, where there is one
abbrev pub deadline_word : Option ℕ → List ℕ
deadline_word None = []
deadline_word (Some moment) = code.deadline_ms ∷ to_le_bytes w64 moment

-- a key of a type, and its value's bytes
abbrev pub key_word : ℕ → List ℕ → List ℕ → List ℕ
key_word type name value = type ∷ (string_word name ++ value)

-- `REDIS0011`
abbrev pub header_word : List ℕ
header_word = codes "REDIS0011"

-- the database of the keys that follow
abbrev pub database_word : ℕ → List ℕ
database_word number = code.select_db ∷ length_word number

-- the same, where it isn't named yet
abbrev pub select_word : Bool → ℕ → List ℕ
select_word false number = database_word number
select_word true number = []

-- the end behind all items, and the sum of all bytes before it
abbrev pub ended : List ℕ → List ℕ
ended items = items ++ code.eof ∷ []

abbrev pub whole_word : List ℕ → List ℕ
whole_word items = ended items ++ to_le_bytes w64 (crc_of 0 (ended items))
