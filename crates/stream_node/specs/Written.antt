-- How entries are written.
use Rattle.std.specs.Prelude.{◌≡◌, ℕ, ◌+◌, ◌-◌, ◌%◌, ◌^◌, ◌<◌, ℤ, Bool, true, false, List, [], ◌∷◌, ◌++◌, length, map}
use Rattle.std.specs.Int.{w64, cast_signed}
use Rattle.int_text.specs.Decimal.{canonical}
use Rattle.listpack.specs.Pack.{IsPack, entries, spellings_of, texts}
use Rattle.listpack.specs.Writing.{spelling}
use Rattle.stream_node.specs.declared.id.Id.{Id}
use Rattle.stream_node.specs.Entry.{Pair, number, flags, fields_of, body, size}

-- A listpack with these elements put behind all others, each spelled as a writer spells it.
pub record Extends (old : List ℕ) (new : List ℕ) (elements : List (List ℕ)) : Type 0 where
  pub pack : IsPack new
  pub spelled : spellings_of new ≡ spellings_of old ++ map spelling elements
  pub list : texts new ≡ texts old ++ elements

-- with these elements put into it, a listpack stays below 2^32 bytes
abbrev pub HasRoom : List ℕ → List (List ℕ) → Type 0
HasRoom pack elements = length pack + length (entries (map spelling elements)) < 2 ^ 32

-- the signed difference of a part of an id from the node's key, modulo 2^64
abbrev pub difference : ℕ → ℕ → ℤ
difference part base = cast_signed w64 ((part + (2 ^ 64 - base)) % 2 ^ 64)

-- what stands of a pair in an entry: the value alone where the fields are the node's
abbrev pub pair_texts : Bool → Pair → List (List ℕ)
pair_texts true pair = pair.1 ∷ []
pair_texts false pair = pair.0 ∷ pair.1 ∷ []

-- the flags and the differences of an entry
abbrev pub start_texts : Id → Id → Bool → List (List ℕ)
start_texts key id same =
    number (flags false same) ∷ canonical (difference id.ms key.ms) ∷ canonical (difference id.seq key.seq) ∷ []

-- the entry's pairs, and its last element
abbrev pub body_texts : Bool → List Pair → List (List ℕ)
body_texts same pairs = body same pairs ++ number (size (body same pairs)) ∷ []

-- an entry that isn't marked deleted
abbrev pub entry_texts : Id → Id → Bool → List Pair → List (List ℕ)
entry_texts key id same pairs = start_texts key id same ++ body_texts same pairs

-- the head of a node of one live entry, with that entry's fields
abbrev pub head_texts : List Pair → List (List ℕ)
head_texts pairs = number 1 ∷ number 0 ∷ number (length pairs) ∷ (fields_of pairs ++ number 0 ∷ [])
