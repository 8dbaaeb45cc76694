-- Bounded calls that move the blocks of a set: the mark of each block, and what such a call passes and leaves.
use Rattle.std.specs.Prelude.{◌≡◌, ℕ, ◌<◌, ◌≤◌, true, List, [], ◌∷◌, is_some, Some, slice_get}
use Rattle.blocks.specs.declared.BlockRef.{BlockRef}
use Rattle.blocks.specs.declared.Moved.{Moved}
use Rattle.blocks.specs.Blocks.{Blocks, Changes}
use Rattle.blocks.specs.Slabs.{Heap, wants}
use Rattle.rehash_dict.specs.Table.{Table as DictTable, Element, item}
use Rattle.rehash_dict.specs.Keyed.{Keyed, key_tables}
use Rattle.rehash_dict.specs.MapOf.{content, key_refs}
use Rattle.collection_walk.specs.Marks.{items_from, vacant_below, is_passed, ArePassed, IsCounted}
use Rattle.set_object.specs.declared.members.Body.{Body}
use Rattle.set_object.specs.declared.members.Body.TheVariants.{Empty, Numbers, Pack, Table}
use Rattle.set_object.specs.declared.members.Members.{Members}
use Rattle.set_object.specs.Members.{IsMembers, KeepsSettings, members, form_of, refs, tables}

abbrev pub marks_in : Body → List ℕ
marks_in Empty = []
marks_in (Numbers packed) = 0 ∷ []
marks_in (Pack packed) = 0 ∷ []
marks_in (Table t) = items_from 0 t.items

-- The mark of each reference, in the same order: 0 for the block of a packed form, and for that of a member its item
-- number.
abbrev pub marks : Members → List ℕ
marks m = marks_in m.body

abbrev pub end_in : Body → ℕ
end_in Empty = 0
end_in (Numbers packed) = 1
end_in (Pack packed) = 1
end_in (Table t) = t.top

-- a number above each mark
abbrev pub marks_end : Members → ℕ
marks_end m = end_in m.body

abbrev pub vacant_in : Body → List ℕ
vacant_in Empty = []
vacant_in (Numbers packed) = []
vacant_in (Pack packed) = []
vacant_in (Table t) = vacant_below t t.top

-- the vacant item numbers
abbrev pub vacant_marks : Members → List ℕ
vacant_marks m = vacant_in m.body

-- Blocks of members moved: the dictionary means what it meant, an element stands at each item number at which one
-- stood, and these item numbers stay as they are.
pub record IsRelocatedTable (before after : Blocks) (old new : DictTable (Unit {0})) (stays : ℕ → Type 0) : Type 0 where
  pub keyed : Keyed after new
  pub content_is : content after new ≡ content before old
  pub tables_are : key_tables after new ≡ key_tables before old
  pub changes : Changes before after (key_refs old) (key_refs new)
  pub seed : new.seed ≡ old.seed
  pub top : new.top ≡ old.top
  pub same_items : (at : ℕ) → is_some (item new at) ≡ is_some (item old at)
  pub others : (at : ℕ) → stays at → item new at ≡ item old at

-- the block of a member of these item numbers wants to move
pub record ItemWaits (heap : Heap) (t : DictTable (Unit {0})) (start end : ℕ) : Type 0 where
  pub at : ℕ
  pub element : Element (Unit {0})
  pub from : start ≤ at
  pub below : at < end
  pub found : item t at ≡ Some element
  pub waits : wants heap element.key ≡ true

-- a block whose mark is from `start` to below `end` wants to move
pub record WantsMove (heap : Heap) (m : Members) (start end : ℕ) : Type 0 where
  pub index : ℕ
  pub mark : ℕ
  pub ref : BlockRef
  pub marked : slice_get (marks m) index ≡ Some mark
  pub named : slice_get (refs m) index ≡ Some ref
  pub from : start ≤ mark
  pub below : mark < end
  pub waits : wants heap ref ≡ true

-- Blocks moved: the set means what it meant, over the references that it has now.
pub record IsRelocated (before after : Blocks) (old new : Members) : Type 0 where
  pub sound : IsMembers after new
  pub members_are : members after new ≡ members before old
  pub form : form_of new ≡ form_of old
  pub tables_are : tables after new ≡ tables before old
  pub changes : Changes before after (refs old) (refs new)
  pub settings : KeepsSettings old new

-- A part of the blocks was passed.
pub record PassesPart (heap : Heap) (old new : Members) (from room : ℕ) (answer : Moved) : Type 0 where
  pub same_marks : marks new ≡ marks old
  pub same_vacant : vacant_marks new ≡ vacant_marks old
  pub passed : ArePassed heap (is_passed from answer.next) (marks new) (refs old) (refs new)
  pub counted : IsCounted (marks old) (vacant_marks old) (marks_end old) from room answer
