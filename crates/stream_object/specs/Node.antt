-- What becomes of one node.
use Rattle.std.specs.Prelude.{◌≡◌, ◌≢◌, ℕ, ◌+◌, ◌<◌, ◌≤◌, true, false, List, [], ◌∷◌, ◌++◌, length, drop}
use Rattle.std.specs.List.{AllByRecursion}
use Rattle.listpack.specs.Pack.{texts}
use Rattle.stream_node.specs.declared.id.Id.{Id}
use Rattle.stream_node.specs.Entry.{Pair, Stored}
use Rattle.stream_node.specs.Entries.{entries_of}
use Rattle.stream_node.specs.Appended.{written_over}
use Rattle.stream_node.specs.declared.behind.Behind.{Behind}
use Rattle.stream_object.specs.declared.node.Growth.{Growth}
use Rattle.stream_object.specs.declared.node.Growth.TheVariants.{Over, Whole, Full}
use Rattle.stream_object.specs.Parts.{IsNodeOf, live_of}

-- an entry that was put in
abbrev pub put : Id → List Pair → Stored
put id pairs = record { id = id; deleted = false; pairs = pairs }

-- The node has the entries that it had, and one more.
pub record IsGrown (key : Id) (old : List Stored) (bytes : List ℕ) (id : Id) (pairs : List Pair) : Type 0 where
  pub is_node : IsNodeOf key bytes
  pub entries_are : entries_of key (texts bytes) ≡ old ++ put id pairs ∷ []

-- What is written over a node gives it one entry more, and leaves it no longer than 4096 bytes.
pub record IsOverGrown (key : Id) (old : List ℕ) (behind : Behind) (id : Id) (pairs : List Pair) : Type 0 where
  pub grown : IsGrown key (entries_of key (texts old)) (written_over old behind.head (drop 6 behind.entry.items)) id pairs
  pub seven : length behind.head ≡ 7
  pub some : 8 ≤ length old
  pub header : 7 ≤ length behind.entry.items
  pub within : length old + length behind.entry.items ≤ 4096 + 7

-- what becomes of a node with one entry more
abbrev pub IsGrowth : Id → List ℕ → Id → List Pair → Growth → Type 0
IsGrowth key old id pairs (Over behind) = IsOverGrown key old behind id pairs
IsGrowth key old id pairs (Whole pack) = IsGrown key (entries_of key (texts old)) pack.items id pairs
IsGrowth key old id pairs Full = Unit {0}

-- An entry that isn't deleted stands behind so many others.
pub record IsAt (es : List Stored) (index : ℕ) (e : Stored) : Type 0 where
  pub before : List Stored
  pub after : List Stored
  pub place : es ≡ before ++ e ∷ after
  pub count : length before ≡ index
  pub live : e.deleted ≡ false

-- no entry of this id is there that isn't deleted
abbrev pub Lacks : Id → List Stored → Type 0
Lacks id es = AllByRecursion (λ e. e.deleted ≡ false → e.id ≢ id) es

-- the first entry that isn't deleted stands behind so many others
abbrev pub IsFirst : List Stored → ℕ → Type 0
IsFirst es index = (e : Stored) × (at : IsAt es index e) × (live_of at.before ≡ [])

-- The node has an entry marked deleted.
abbrev pub Marks : Id → List ℕ → List ℕ → ℕ → Type 0
Marks key old bytes index =
    (e : Stored) (at : IsAt (entries_of key (texts old)) index e) → IsNodeOf key old
    → 1 < length (live_of (entries_of key (texts old)))
    → IsNodeOf key bytes
    × (entries_of key (texts bytes)
    ≡ at.before ++ record { id = e.id; deleted = true; pairs = e.pairs } ∷ at.after)
