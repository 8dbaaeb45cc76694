-- The frames of a stream of requests, on its whole bytes (RESP2, "Sending commands to a Redis server", "Arrays",
-- "Bulk strings", "Inline commands").
use Rattle.std.specs.Prelude.{◌≡◌, ◌≢◌, ⊤, ℕ, ◌<◌, ◌≤◌, ◌⊎◌, List, [], ◌∷◌, ◌++◌, length, filter, flat_map, Bool}
use Rattle.std.specs.Prelude.{true, false, ◌&&◌, ◌||◌, ◌==◌, nat_le, IsTrue, if◌then◌else◌}
use Rattle.std.specs.List.{AllByRecursion, list_all}
use Rattle.std.specs.Fmt.{decimal}
use Rattle.std.specs.Io.BufRead.{strip_last}
use Rattle.plain_world.specs.Spelling.{line_end}
use Rattle.plain_world.specs.Words.{Words}
pub use Rattle.plain_world.specs.Words.{IsWord, IsRequest, most_words}

-- the greatest number of bytes of a header before its CR, its mark among them
abbrev pub longest_header : ℕ
longest_header = 65536

-- the greatest number of bytes of an inline request before its LF
abbrev pub longest_line : ℕ
longest_line = 65536

-- a header: its mark, its text, CR LF
abbrev pub header : ℕ → List ℕ → List ℕ
header mark text = mark ∷ text ++ line_end

-- a bulk string: its length behind `$`, and its bytes
abbrev pub bulk : List ℕ → List ℕ
bulk word = header 36 (decimal (length word)) ++ (word ++ line_end)

-- a request: the number of its words behind `*`, and its words
abbrev pub request_bytes : Words → List ℕ
request_bytes words = header 42 (decimal (length words)) ++ flat_map bulk words

-- the bytes don't have this one
abbrev pub IsWithout : ℕ → List ℕ → Type 0
IsWithout mark text = AllByRecursion (λ b. b ≢ mark) text

-- no CR
abbrev pub IsPlainText : List ℕ → Type 0
IsPlainText text = IsWithout 13 text

-- the text of a header: no CR, and not too long with its mark
pub record IsText (text : List ℕ) : Type 0 where
  pub plain : IsPlainText text
  pub short : length text < longest_header

-- digits without a leading zero
abbrev pub is_digit : ℕ → Bool
is_digit b = nat_le 48 b && nat_le b 57

abbrev pub is_positive : List ℕ → Bool
is_positive [] = false
is_positive (d ∷ ds) = nat_le 49 d && nat_le d 57 && list_all is_digit ds

-- the canonical text of a number below 0, of any length
abbrev pub is_negative : List ℕ → Bool
is_negative [] = false
is_negative (b ∷ ds) = b == 45 && is_positive ds

-- the canonical text of a number that is 0 or less
abbrev pub IsNoCount : List ℕ → Type 0
IsNoCount text = (text ≡ 48 ∷ []) ⊎ IsTrue (is_negative text)

-- an inline request begins with another byte than `*`
abbrev pub IsInline : List ℕ → Type 0
IsInline [] = ⊤
IsInline (b ∷ bytes) = b ≢ 42

-- the line of an inline request, without its LF
pub record IsLine (text : List ℕ) : Type 0 where
  pub inline : IsInline text
  pub plain : IsWithout 10 text
  pub short : length text ≤ longest_line

-- a double or a single quote
abbrev pub is_quote : ℕ → Bool
is_quote b = b == 34 || b == 39

abbrev pub IsUnquoted : List ℕ → Type 0
IsUnquoted text = AllByRecursion (λ b. is_quote b ≡ false) text

-- a space or a tab
abbrev pub is_blank : ℕ → Bool
is_blank b = b == 32 || b == 9

-- the byte in front of the first part
abbrev pub with_byte : ℕ → Words → Words
with_byte b [] = (b ∷ []) ∷ []
with_byte b (part ∷ parts) = (b ∷ part) ∷ parts

-- the parts before, between and behind the blanks
unfoldable pub parts_of : List ℕ → Words
parts_of [] = [] ∷ []
parts_of (b ∷ bytes) = if is_blank b then [] ∷ parts_of bytes else with_byte b (parts_of bytes)

abbrev pub has_bytes : List ℕ → Bool
has_bytes [] = false
has_bytes (b ∷ part) = true

-- the words: the parts that have bytes
abbrev pub words_of : List ℕ → Words
words_of bytes = filter has_bytes (parts_of bytes)

-- the words of a line, where one CR directly before the LF belongs to no word
abbrev pub line_words : List ℕ → Words
line_words text = words_of (strip_last 13 text)

-- what stands in a stream: a request, a header that is passed over, or the line of an inline request
pub data Item : Type 0 where
  Asked : Words → Item
  Passed : List ℕ → Item
  Line : List ℕ → Item

abbrev pub item_bytes : Item → List ℕ
item_bytes (Asked words) = request_bytes words
item_bytes (Passed text) = header 42 text
item_bytes (Line text) = text ++ 10 ∷ []

abbrev pub IsItem : Item → Type 0
IsItem (Asked words) = IsRequest words
IsItem (Passed text) = IsNoCount text × IsText text
IsItem (Line text) = IsLine text × IsUnquoted text

-- an inline request without words is passed over
abbrev pub asked_inline : Words → List Words
asked_inline [] = []
asked_inline (word ∷ words) = (word ∷ words) ∷ []

abbrev pub asked : Item → List Words
asked (Asked words) = words ∷ []
asked (Passed text) = []
asked (Line text) = asked_inline (line_words text)

-- the requests among the items
abbrev pub requests : List Item → List Words
requests items = flat_map asked items

-- the bytes are these items, and then a rest
pub record Framed (bytes : List ℕ) (items : List Item) (rest : List ℕ) : Type 0 where
  pub whole : bytes ≡ flat_map item_bytes items ++ rest
  pub each : AllByRecursion IsItem items
