-- The bytes of fields with their values, and of members with their scores (RDB file format, "Hash Encoding", "Sorted Set
-- Encoding").
use Rattle.std.specs.Prelude.{ℕ, List, ◌++◌, length, flat_map}
use Rattle.pack_pairs.specs.Pairs.{Pair}
use Rattle.score_list.specs.Sorted.{Key}
use Rattle.rdb_parts.specs.Words.{length_word, string_word}
use Rattle.rdb_parts.specs.ScoreWords.{score_word}

-- a field and its value
abbrev pub pair_word : Pair → List ℕ
pair_word pair = string_word pair.0 ++ string_word pair.1

abbrev pub pairs_word : List Pair → List ℕ
pairs_word pairs = flat_map pair_word pairs

-- how many fields, and they with their values
abbrev pub counted_pairs : List Pair → List ℕ
counted_pairs pairs = length_word (length pairs) ++ pairs_word pairs

-- a member and its score
abbrev pub member_word : Key → List ℕ
member_word key = string_word key.1 ++ score_word key.0

abbrev pub members_word : List Key → List ℕ
members_word keys = flat_map member_word keys

-- how many members, and they with their scores
abbrev pub counted_members : List Key → List ℕ
counted_members keys = length_word (length keys) ++ members_word keys
