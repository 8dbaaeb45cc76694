-- A node with one entry marked deleted.
use Rattle.std.specs.Prelude.{◌≡◌, ℕ, zero, suc, ◌+◌, ◌-◌, ◌≤◌, ◌<◌, true, false, List, [], ◌∷◌, length, drop, slice_get, slice_index, slice_set, Some}
use Rattle.std.specs.List.{insert}
use Rattle.listpack.specs.Pack.{IsPack, spellings_of, texts}
use Rattle.listpack.specs.Writing.{spelling}
use Rattle.stream_node.specs.declared.id.Id.{Id}
use Rattle.stream_node.specs.declared.marking.MarkOver.{MarkOver}
use Rattle.stream_node.specs.declared.marking.Marks.{Marks}
use Rattle.stream_node.specs.Entry.{Stored, number}
use Rattle.stream_node.specs.Entries.{element, count, behind_entry, field_count, entries_of, IsNode}
use Rattle.stream_node.specs.Appended.{fields_in}

-- The list is a stream node of that key, and its entry at this index is there and isn't marked deleted.
pub record CanMark (key : Id) (list : List (List ℕ)) (index : ℕ) : Type 0 where
  pub node : IsNode key list
  pub entry : Stored
  pub there : slice_get (entries_of key list) index ≡ Some entry
  pub live : entry.deleted ≡ false

-- the entries, one of them marked deleted
unfoldable pub mark_at : List Stored → ℕ → List Stored
mark_at [] i = []
mark_at (e ∷ es) zero = record { id = e.id; deleted = true; pairs = e.pairs } ∷ es
mark_at (e ∷ es) (suc i) = e ∷ mark_at es i

-- what stands behind so many entries
unfoldable pub behind_entries : List (List ℕ) → ℕ → List (List ℕ) → List (List ℕ)
behind_entries master zero list = list
behind_entries master (suc n) list = behind_entries master n (behind_entry master list)

-- where the flags of an entry stand
abbrev pub flags_at : List (List ℕ) → ℕ → ℕ
flags_at list index = length list - length (behind_entries (fields_in list) index (drop (4 + field_count list) list))

-- the first two elements and one other, exchanged
abbrev pub exchanged : List (List ℕ) → ℕ → List ℕ → List ℕ → List ℕ → List (List ℕ)
exchanged list at first second other = slice_set (slice_set (slice_set list 0 first) 1 second) at other

-- The numbers that a mark changes: one entry less is live, one more is marked, and the entry's flags say so.
abbrev pub less_live : List (List ℕ) → List ℕ
less_live list = number (count (element list 0) - 1)

abbrev pub more_deleted : List (List ℕ) → List ℕ
more_deleted list = number (count (element list 1) + 1)

abbrev pub marked_flags : List (List ℕ) → ℕ → List ℕ
marked_flags list at = number (count (element list at) + 1)

-- the spellings of the listpack's elements with the mark
abbrev pub marked_spellings : List ℕ → ℕ → List (List ℕ)
marked_spellings pack index =
    let list = texts pack in
    let at = flags_at list index in
    exchanged (spellings_of pack) at (spelling (less_live list)) (spelling (more_deleted list))
    (spelling (marked_flags list at))

-- The entry is marked deleted, and the listpack stays a stream node.
pub record IsMarked (old : List ℕ) (new : List ℕ) (index : ℕ) : Type 0 where
  pub pack : IsPack new
  pub node : (key : Id) → IsNode key (texts old) → IsNode key (texts new)
  pub entries : (key : Id) → IsNode key (texts old)
      → entries_of key (texts new) ≡ mark_at (entries_of key (texts old)) index
  pub spelled : spellings_of new ≡ marked_spellings old index

-- a listpack with three bytes exchanged
abbrev pub marked_over : List ℕ → MarkOver → List ℕ
marked_over old mark = slice_set (slice_set (slice_set old 6 mark.live) 8 mark.deleted) mark.at mark.flags

-- The bytes written over a listpack mark the entry at this index.
pub record IsMarkOver (old : List ℕ) (index : ℕ) (mark : MarkOver) : Type 0 where
  pub marked : IsMarked old (marked_over old mark) index
  pub some : 8 < length old
  pub inside : mark.at < length old

-- A number stands at this place that takes one byte, and so does the other one.
pub record TakesByte (bytes : List ℕ) (at : ℕ) (number : ℕ) : Type 0 where
  pub inside : at < length bytes
  pub was : slice_index bytes at < 128
  pub small : number < 128

-- what is to be written where
pub record AreMarks (list : List (List ℕ)) (index : ℕ) (marks : Marks) : Type 0 where
  pub at_is : marks.at ≡ flags_at list index
  pub live_is : number marks.live ≡ less_live list
  pub deleted_is : number marks.deleted ≡ more_deleted list
  pub flags_are : number marks.flags ≡ marked_flags list marks.at
  pub behind_two : 2 ≤ marks.at
  pub inside : marks.at < length list

-- A listpack with an element put before another.
pub record Inserts (old : List ℕ) (new : List ℕ) (index : ℕ) (text : List ℕ) : Type 0 where
  pub pack : IsPack new
  pub spelled : spellings_of new ≡ insert (spellings_of old) index (spelling text)
  pub list : texts new ≡ insert (texts old) index text

-- A listpack with three elements exchanged.
pub record Exchanges (old : List ℕ) (new : List ℕ) (at : ℕ) (first : List ℕ) (second : List ℕ) (other : List ℕ)
    : Type 0 where
  pub pack : IsPack new
  pub spelled : spellings_of new ≡ exchanged (spellings_of old) at (spelling first) (spelling second) (spelling other)
  pub list : texts new ≡ exchanged (texts old) at first second other
