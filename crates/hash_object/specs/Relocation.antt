-- Bounded calls that move the blocks of a hash: the mark of each block, and what such a call passes and leaves.
use Rattle.std.specs.Prelude.{◌≡◌, ℕ, zero, suc, ◌+◌, ◌*◌, ◌<◌, ◌≤◌, false, List, [], ◌∷◌, ◌++◌, count_by, is_some, Option, Some, None}
use Rattle.blocks.specs.declared.BlockRef.{BlockRef}
use Rattle.blocks.specs.declared.Moved.{Moved}
use Rattle.blocks.specs.Blocks.{Blocks, Changes}
use Rattle.blocks.specs.Slabs.{Heap, wants}
use Rattle.rehash_dict.specs.Table.{Element, item}
use Rattle.rehash_dict.specs.Keyed.{Keyed, key_tables}
use Rattle.collection_walk.specs.Marks.{is_passed, is_within, ArePassed, IsCounted}
use Rattle.hash_object.specs.declared.fields.Body.{Body}
use Rattle.hash_object.specs.declared.fields.Body.TheVariants.{Empty, Pack, Table}
use Rattle.hash_object.specs.declared.fields.Fields.{Fields}
use Rattle.hash_object.specs.Hashed.{FieldTable, fields_in, blocks_of}
use Rattle.hash_object.specs.Fields.{IsFields, KeepsSettings, fields, form_of, refs, tables}

-- the marks of the blocks of the elements, where the first place has this number
abbrev pub marks_from : ℕ → List (Option (Element BlockRef)) → List ℕ
marks_from n [] = []
marks_from n (None ∷ items) = marks_from (suc n) items
marks_from n (Some e ∷ items) = (2 * n) ∷ (2 * n + 1) ∷ marks_from (suc n) items

abbrev pub marks_in : Body → List ℕ
marks_in Empty = []
marks_in (Pack packed) = 0 ∷ []
marks_in (Table t) = marks_from 0 t.items

-- The mark of each reference, in the same order: 0 for the block of a listpack, for that of a field twice its item
-- number, and for that of a value one more.
abbrev pub marks : Fields → List ℕ
marks f = marks_in f.body

abbrev pub end_in : Body → ℕ
end_in Empty = 0
end_in (Pack packed) = 1
end_in (Table t) = 2 * t.top

-- a number above each mark
abbrev pub marks_end : Fields → ℕ
marks_end f = end_in f.body

-- the mark of an item number where it is vacant
abbrev pub vacant_mark : ℕ → Option (Element BlockRef) → List ℕ
vacant_mark n None = (2 * n) ∷ []
vacant_mark n (Some e) = []

-- those of the vacant item numbers below a number
abbrev pub vacant_below : FieldTable → ℕ → List ℕ
vacant_below t zero = []
vacant_below t (suc n) = vacant_mark n (item t n) ++ vacant_below t n

abbrev pub vacant_in : Body → List ℕ
vacant_in Empty = []
vacant_in (Pack packed) = []
vacant_in (Table t) = vacant_below t t.top

-- the mark of each vacant item number: twice the number
abbrev pub vacant_marks : Fields → List ℕ
vacant_marks f = vacant_in f.body

-- how many blocks and vacant item numbers have marks from `start` to below `end`
abbrev pub units_in : Body → ℕ → ℕ → ℕ
units_in body start end =
    count_by (is_within start end) (marks_in body) + count_by (is_within start end) (vacant_in body)

abbrev pub units : Fields → ℕ → ℕ → ℕ
units f start end = units_in f.body start end

-- the block of a mark
abbrev pub block_in : List (Option (Element BlockRef)) → ℕ → Option BlockRef
block_in [] mark = None
block_in (None ∷ items) zero = None
block_in (None ∷ items) (suc zero) = None
block_in (None ∷ items) (suc (suc mark)) = block_in items mark
block_in (Some e ∷ items) zero = Some e.key
block_in (Some e ∷ items) (suc zero) = Some e.value
block_in (Some e ∷ items) (suc (suc mark)) = block_in items mark

-- Blocks of fields and values moved: the dictionary means what it meant, an element stands at each item number at which
-- one stood, and the blocks of these marks stay.
pub record IsRelocatedTable (before after : Blocks) (old new : FieldTable) (stays : ℕ → Type 0) : Type 0 where
  pub keyed : Keyed after new
  pub fields_are : fields_in after new ≡ fields_in before old
  pub tables_are : key_tables after new ≡ key_tables before old
  pub changes : Changes before after (blocks_of old) (blocks_of new)
  pub seed : new.seed ≡ old.seed
  pub top : new.top ≡ old.top
  pub same_items : (at : ℕ) → is_some (item new at) ≡ is_some (item old at)
  pub others : (mark : ℕ) → stays mark → block_in new.items mark ≡ block_in old.items mark

-- the blocks of these marks want no move
abbrev pub IsCalm : Heap → FieldTable → ℕ → ℕ → Type 0
IsCalm heap t start end =
    (mark : ℕ) (r : BlockRef) → start ≤ mark → mark < end → block_in t.items mark ≡ Some r → wants heap r ≡ false

-- Blocks moved: the hash means what it meant, over the references that it has now.
pub record IsRelocated (before after : Blocks) (old new : Fields) : Type 0 where
  pub sound : IsFields after new
  pub fields_are : fields after new ≡ fields before old
  pub form : form_of new ≡ form_of old
  pub tables_are : tables after new ≡ tables before old
  pub changes : Changes before after (refs old) (refs new)
  pub settings : KeepsSettings old new

-- A part of the blocks was passed.
pub record PassesPart (heap : Heap) (old new : Fields) (from room : ℕ) (answer : Moved) : Type 0 where
  pub same_marks : marks new ≡ marks old
  pub same_vacant : vacant_marks new ≡ vacant_marks old
  pub passed : ArePassed heap (is_passed from answer.next) (marks new) (refs old) (refs new)
  pub counted : IsCounted (marks old) (vacant_marks old) (marks_end old) from room answer
