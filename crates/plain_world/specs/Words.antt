-- The words of a request (RESP2, "Sending commands to a Redis server").
use Rattle.std.specs.Prelude.{ℕ, ◌<◌, ◌≤◌, List, map, length}
use Rattle.std.specs.List.{AllByRecursion}
use Rattle.std.specs.Char.{to_ascii_lowercase}

-- a request is the list of its words; the first names the command
abbrev pub Words : Type 0
Words = List (List ℕ)

-- the greatest length of a word and of a string in bytes: 512 MiB
abbrev pub longest : ℕ
longest = 536870912

-- the greatest number of words of a request
abbrev pub most_words : ℕ
most_words = 1048576

-- a word has at most 512 MiB
abbrev pub IsWord : List ℕ → Type 0
IsWord word = length word ≤ longest

-- a request has 1 to 1,048,576 words
pub record IsRequest (words : Words) : Type 0 where
  pub some : 0 < length words
  pub few : length words ≤ most_words
  pub each : AllByRecursion IsWord words

-- a word, with ASCII case ignored
abbrev pub in_lower_case : List ℕ → List ℕ
in_lower_case word = map to_ascii_lowercase word
