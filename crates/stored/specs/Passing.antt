-- Bounded calls that move a value's blocks during a pass over the store: what they pass, and what they leave. Each block
-- has a mark, and each vacant item number of a dictionary too.
use Rattle.std.specs.Prelude.{◌≡◌, ℕ, ◌+◌, ◌<◌, ◌≤◌, List, Option, count_by, IfSome}
use Rattle.blocks.specs.declared.BlockRef.{BlockRef}
use Rattle.blocks.specs.declared.Moved.{Moved}
use Rattle.blocks.specs.Blocks.{Blocks, Changes}
use Rattle.blocks.specs.Slabs.{Heap, Calmer}
use Rattle.collection_walk.specs.Marks.{is_passed, ArePassed}
use Rattle.object_codec.specs.declared.limits.Limits.{Limits}
use Rattle.plain_world.specs.Worlds.{Value}
use Rattle.rehash_dict.specs.Tables.{Tables}

-- The marks of a value: those of its blocks in the order of its references, and those of the vacant item numbers between
-- them.
pub record Marks : Type 0 where
  pub named : List ℕ
  pub vacant : List ℕ

-- how many blocks and vacant item numbers a call passes that begins at a mark, up to where it goes on
abbrev pub passed_of : Marks → ℕ → Option ℕ → ℕ
passed_of marks from next =
    count_by (is_passed from next) marks.named + count_by (is_passed from next) marks.vacant

-- The answer counts what was passed, no more than there was room for. Where some are left the call went on, and used all
-- its room but for 17 units at most.
pub record IsBounded (passed from room : ℕ) (answer : Moved) : Type 0 where
  pub used : answer.used ≡ passed
  pub within : answer.used ≤ room
  pub on : IfSome answer.next (λ next. (from < next) × (room ≤ answer.used + 17))

-- A part of a value's blocks was passed, from a mark on. It means what it meant, and is sound, encoded and kept in tables
-- as it was. The blocks that were passed want no move, and the others stay.
pub record PassesPart {V E : Type 0} (refs_of : Blocks → V → List BlockRef) (value_of : Blocks → V → Value)
    (IsSound : Limits → ℕ → Blocks → V → Type 0) (marks : Blocks → V → Marks) (tables : Blocks → V → Tables (List ℕ))
    (encoding : V → E) (m after : Blocks) (heap later : Heap) (old new : V) (from room : ℕ) (answer : Moved) : Type 0 where
  pub means : value_of after new ≡ value_of m old
  pub sound : (limits : Limits) (seed : ℕ) → IsSound limits seed m old → IsSound limits seed after new
  pub same_encoding : encoding new ≡ encoding old
  pub same_tables : tables after new ≡ tables m old
  pub same_marks : marks after new ≡ marks m old
  pub changes : Changes m after (refs_of m old) (refs_of after new)
  pub calmer : Calmer heap later
  pub passed : ArePassed later (is_passed from answer.next) (marks after new).named (refs_of m old) (refs_of after new)
  pub bounded : IsBounded (passed_of (marks after new) from answer.next) from room answer
