-- Bounded calls that move the blocks of a sorted set: the mark of each block, and what such a call passes and leaves.
use Rattle.std.specs.Prelude.{◌≡◌, ℕ, List, [], ◌∷◌}
use Rattle.blocks.specs.declared.Moved.{Moved}
use Rattle.blocks.specs.Blocks.{Blocks, Changes}
use Rattle.blocks.specs.Slabs.{Heap}
use Rattle.collection_walk.specs.Marks.{items_from, vacant_below, is_passed, ArePassed, IsCounted}
use Rattle.zset_object.specs.declared.scored.Body.{Body}
use Rattle.zset_object.specs.declared.scored.Body.TheVariants.{Empty, Pack, Table}
use Rattle.zset_object.specs.declared.scored.Scored.{Scored}
use Rattle.zset_object.specs.Scored.{IsScored, KeepsSettings, scores, ranked, form_of, refs, tables}

abbrev pub marks_in : Body → List ℕ
marks_in Empty = []
marks_in (Pack packed) = 0 ∷ []
marks_in (Table t) = items_from 0 t.table.items

-- The mark of each reference, in the same order: 0 for the block of a listpack, and for that of a member its item
-- number.
abbrev pub marks : Scored → List ℕ
marks s = marks_in s.body

abbrev pub end_in : Body → ℕ
end_in Empty = 0
end_in (Pack packed) = 1
end_in (Table t) = t.table.top

-- a number above each mark
abbrev pub marks_end : Scored → ℕ
marks_end s = end_in s.body

abbrev pub vacant_in : Body → List ℕ
vacant_in Empty = []
vacant_in (Pack packed) = []
vacant_in (Table t) = vacant_below t.table t.table.top

-- the vacant item numbers
abbrev pub vacant_marks : Scored → List ℕ
vacant_marks s = vacant_in s.body

-- Blocks moved: the sorted set means what it meant, over the references that it has now.
pub record IsRelocated (before after : Blocks) (old new : Scored) : Type 0 where
  pub sound : IsScored after new
  pub scores_are : scores after new ≡ scores before old
  pub ranked_are : ranked after new ≡ ranked before old
  pub form : form_of new ≡ form_of old
  pub tables_are : tables after new ≡ tables before old
  pub changes : Changes before after (refs old) (refs new)
  pub settings : KeepsSettings old new

-- A part of the blocks was passed.
pub record PassesPart (heap : Heap) (old new : Scored) (from room : ℕ) (answer : Moved) : Type 0 where
  pub same_marks : marks new ≡ marks old
  pub same_vacant : vacant_marks new ≡ vacant_marks old
  pub passed : ArePassed heap (is_passed from answer.next) (marks new) (refs old) (refs new)
  pub counted : IsCounted (marks old) (vacant_marks old) (marks_end old) from room answer
