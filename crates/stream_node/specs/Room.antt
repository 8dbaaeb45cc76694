-- Room for entries and marks, by numbers of bytes that are quickly told.
use Rattle.std.specs.Prelude.{◌≡◌, ℕ, true, ◌+◌, ◌<◌, ◌≤◌, ◌^◌, List, [], ◌++◌, length, map, sum_by}
use Rattle.std.specs.List.{AllByRecursion}
use Rattle.listpack.specs.Pack.{IsPack, spellings_of, texts}
use Rattle.listpack.specs.Writing.{spelling}
use Rattle.stream_node.specs.declared.id.Id.{Id}
use Rattle.stream_node.specs.Entry.{Pair}
use Rattle.stream_node.specs.Written.{head_texts, entry_texts}
use Rattle.stream_node.specs.Appended.{appended, pack_len}
use Rattle.stream_node.specs.Entries.{entries_of}
use Rattle.stream_node.specs.Marked.{CanMark, marked_spellings}

-- no more bytes than this are added by a field and its value
abbrev pub pair_bytes : Pair → ℕ
pair_bytes p = length p.0 + length p.1 + 20

-- no more bytes than this are added by an entry with these pairs
abbrev pub most_bytes : List Pair → ℕ
most_bytes pairs = 640 + sum_by pair_bytes pairs

-- with the pairs put into it, a listpack is surely below 2^32 bytes
abbrev pub IsRoomy : List ℕ → List Pair → Type 0
IsRoomy pack pairs = length pack + most_bytes pairs < 2 ^ 32

-- a spelling that the writer gives a text
abbrev pub IsWritten : List ℕ → Type 0
IsWritten s = (text : List ℕ) × (s ≡ spelling text)

-- how many bytes a node of an entry alone has
abbrev pub alone_len : Id → List Pair → ℕ
alone_len id pairs = pack_len (map spelling (head_texts pairs ++ entry_texts id id true pairs))

pub record RoomEnough : Type 0 where
  pub append : (key id : Id) (pack : List ℕ) (pairs : List Pair) → IsPack pack → IsRoomy pack pairs
      → pack_len (appended key pack id pairs) < 2 ^ 32
  -- an entry alone takes ten bytes for each field and value beside its own; behind others, not many more
  pub alone : (id : Id) (pairs : List Pair) → most_bytes pairs < 2 ^ 32 → alone_len id pairs ≤ 7 + most_bytes pairs
  pub first : (id : Id) (pack : List ℕ) (pairs : List Pair) → texts pack ≡ []
      → pack_len (appended id pack id pairs) ≡ alone_len id pairs
  pub behind : (key id : Id) (pack : List ℕ) (pairs : List Pair) → IsPack pack → alone_len id pairs < 2 ^ 32
      → pack_len (appended key pack id pairs) ≤ length pack + 440 + alone_len id pairs
  pub mark : (pack : List ℕ) (index : ℕ) → IsPack pack → length pack + 192 < 2 ^ 32
      → pack_len (marked_spellings pack index) < 2 ^ 32
  -- a mark leaves the number of bytes, where a writer has spelled the elements and there are no more than 100 entries
  pub kept : (key : Id) (pack : List ℕ) (index : ℕ) → IsPack pack → AllByRecursion IsWritten (spellings_of pack)
      → CanMark key (texts pack) index → length (entries_of key (texts pack)) ≤ 100 → length pack < 2 ^ 32
      → pack_len (marked_spellings pack index) ≡ length pack
  -- what a writer has spelled stays so
  pub appends : (key id : Id) (pack : List ℕ) (pairs : List Pair) → AllByRecursion IsWritten (spellings_of pack)
      → AllByRecursion IsWritten (appended key pack id pairs)
  pub marks : (pack : List ℕ) (index : ℕ) → AllByRecursion IsWritten (spellings_of pack)
      → AllByRecursion IsWritten (marked_spellings pack index)
