-- A node with one more entry.
use Rattle.std.specs.Prelude.{◌≡◌, ◌⊎◌, ℕ, ◌+◌, ◌-◌, ◌^◌, ◌<◌, ◌≤◌, Bool, true, false, List, [], ◌∷◌, ◌++◌, length, map, take, drop, slice_set, bytes_eq, ◌&&◌}
use Rattle.listpack.specs.Pack.{IsPack, entries, spellings_of, texts}
use Rattle.listpack.specs.Writing.{spelling}
use Rattle.stream_node.specs.declared.id.Id.{Id}
use Rattle.stream_node.specs.Entry.{Pair, Stored, number, fields_of}
use Rattle.stream_node.specs.Node.{IsHead}
use Rattle.stream_node.specs.Entries.{element, count, field_count, entries_of, IsNode}
use Rattle.stream_node.specs.Written.{entry_texts, head_texts}

-- the same texts, in the same order
abbrev pub same_texts : List (List ℕ) → List (List ℕ) → Bool
same_texts [] [] = true
same_texts [] (y ∷ ys) = false
same_texts (x ∷ xs) [] = false
same_texts (x ∷ xs) (y ∷ ys) = bytes_eq x y && same_texts xs ys

-- the fields of a node
abbrev pub fields_in : List (List ℕ) → List (List ℕ)
fields_in list = take (field_count list) (drop 3 list)

-- An empty list, or a stream node of that key.
abbrev pub IsOpen : Id → List (List ℕ) → Type 0
IsOpen key list = (list ≡ []) ⊎ IsNode key list

-- the entries that such a list has
abbrev pub held : Id → List (List ℕ) → List Stored
held key [] = []
held key (x ∷ list) = entries_of key (x ∷ list)

-- the count of live entries, one more
abbrev pub more_live : List (List ℕ) → List ℕ
more_live list = number (count (element list 0) + 1)

-- what is put behind the elements: in an empty list a head with the entry's own fields, and the entry
abbrev pub added : Id → List (List ℕ) → Id → List Pair → List (List ℕ)
added key [] id pairs = head_texts pairs ++ entry_texts key id true pairs
added key (x ∷ list) id pairs = entry_texts key id (same_texts (fields_of pairs) (fields_in (x ∷ list))) pairs

-- the spellings of the listpack's elements with the entry: the count of live entries and what is put behind them are
-- spelled anew
abbrev pub appended : Id → List ℕ → Id → List Pair → List (List ℕ)
appended key pack id pairs =
    slice_set (spellings_of pack) 0 (spelling (more_live (texts pack)))
    ++ map spelling (added key (texts pack) id pairs)

-- how many bytes a listpack of these spellings has
abbrev pub pack_len : List (List ℕ) → ℕ
pack_len spellings = 7 + length (entries spellings)

-- The listpack has one entry more, and stays a stream node, or becomes one.
pub record IsAppended (key : Id) (old : List ℕ) (new : List ℕ) (id : Id) (pairs : List Pair) : Type 0 where
  pub pack : IsPack new
  pub node : IsNode key (texts new)
  pub entries : entries_of key (texts new) ≡ held key (texts old) ++ record { id = id; deleted = false; pairs = pairs }
      ∷ []
  pub spelled : spellings_of new ≡ appended key old id pairs

-- a listpack of which the first bytes and those from its last one on are written anew
abbrev pub written_over : List ℕ → List ℕ → List ℕ → List ℕ
written_over pack head tail = head ++ (drop (length head) (take (length pack - 1) pack) ++ tail)

-- A head, and the elements of another listpack with its last byte, written over a listpack so give it one entry more.
pub record IsOver (key : Id) (old : List ℕ) (head : List ℕ) (entry : List ℕ) (id : Id) (pairs : List Pair) : Type 0 where
  pub appended : IsAppended key old (written_over old head (drop 6 entry)) id pairs
  pub seven : length head ≡ 7
  pub some : 8 ≤ length old
  pub entry_pack : IsPack entry
  pub short : length old + length entry < 2 ^ 32 + 7

-- A listpack with an element put in the place of another.
pub record Replaces (old : List ℕ) (new : List ℕ) (index : ℕ) (text : List ℕ) : Type 0 where
  pub pack : IsPack new
  pub spelled : spellings_of new ≡ slice_set (spellings_of old) index (spelling text)
  pub list : texts new ≡ slice_set (texts old) index text

-- So many entries are live, and the test says whether the fields of the pairs are the node's.
pub record IsPlan (list : List (List ℕ)) (pairs : List Pair) (live : ℕ) (same : Bool) : Type 0 where
  pub deleted : ℕ
  pub master : List (List ℕ)
  pub rest : List (List ℕ)
  pub head : IsHead list live deleted master rest
  pub same_is : same ≡ same_texts (fields_of pairs) master

-- A listpack with another first element, and with elements put behind all others.
pub record IsBehind (old : List ℕ) (new : List ℕ) (first : List ℕ) (elements : List (List ℕ)) : Type 0 where
  pub pack : IsPack new
  pub spelled : spellings_of new ≡ slice_set (spellings_of old) 0 (spelling first) ++ map spelling elements
  pub list : texts new ≡ slice_set (texts old) 0 first ++ elements
