-- Bounded calls that move blocks during a pass over the store: what they pass, and what they leave.
use Rattle.std.specs.Prelude.{◌≡◌, ◌≢◌, ℕ, ◌+◌, ◌<◌, ◌⊎◌, false, List, Option, None, Some, IsSome, unwrap_or}
use Rattle.object_codec.specs.declared.limits.Limits.{Limits}
use Rattle.blocks.specs.declared.BlockRef.{BlockRef}
use Rattle.blocks.specs.declared.Moved.{Moved}
use Rattle.blocks.specs.Blocks.{Blocks, Changes, times}
use Rattle.blocks.specs.Slabs.{Heap, wants}
use Rattle.collection_walk.specs.Marks.{is_passed, ArePassed}
use Rattle.plain_world.specs.Worlds.{Value}
use Rattle.rehash_dict.specs.Keyed.{key_tables}
use Rattle.rehash_dict.specs.Tables.{Tables}
use Rattle.stored.specs.Passing.{Marks, passed_of, IsBounded}
use Rattle.expiry.specs.Timed.{KeepsCursor}
use Rattle.held.specs.Table.{Element, item}
use Rattle.held.specs.Databases.{Bases, table_at, deadlines_at, owned, means, SameSettings}
use Rattle.held.specs.Sound.{IsArranged}

-- how many key blocks are passed from a place inside an element on: its key's comes before all of its value
abbrev pub names_from : Option ℕ → ℕ
names_from None = 1
names_from (Some mark) = 0

module _ {V : Type 0} (refs_of : Blocks → V → List BlockRef) (value_of : Blocks → V → Value)
    (IsSound : Limits → ℕ → Blocks → V → Type 0) where
  -- Blocks moved: the databases mean what they meant, each owns its blocks by the references that they have now, and
  -- all tables are as they were, with an element named by its key's bytes.
  pub record Relocates (old new : Bases V) (m after : Blocks) : Type 0 where
    pub means : (number : ℕ) → means value_of number new after ≡ means value_of number old m
    pub arranged : IsArranged IsSound new after
    pub changes : Changes m after (owned (refs_of m) old) (owned (refs_of after) new)
    pub settings : SameSettings old new
    pub keys : (number : ℕ) → key_tables after (table_at new number) ≡ key_tables m (table_at old number)
    pub deadlines : (number : ℕ)
        → key_tables after (deadlines_at new number).table ≡ key_tables m (deadlines_at old number).table
    pub cursors : (number : ℕ) → KeepsCursor (deadlines_at old number) (deadlines_at new number)

module _ {V : Type 0} where
  -- one element stands in the place of another, and all others stay
  pub record Replaces (old new : Bases V) (db at : ℕ) (was now : Element V) : Type 0 where
    pub found : item (table_at old db) at ≡ Some was
    pub stands : item (table_at new db) at ≡ Some now
    pub others : (number other : ℕ) → (number ≢ db) ⊎ (other ≢ at)
        → item (table_at new number) other ≡ item (table_at old number) other

  -- the numbers above all item numbers stay
  abbrev pub SameTops : Bases V → Bases V → Type 0
  SameTops old new = (number : ℕ) → (table_at new number).top ≡ (table_at old number).top

  -- the block of an element's key was passed
  pub record PassesName (refs_of : Blocks → V → List BlockRef) (m after : Blocks) (later : Heap) (old new : Bases V)
      (db at : ℕ) : Type 0 where
    pub was : Element V
    pub now : Element V
    pub replaces : Replaces old new db at was now
    pub same_value : now.value ≡ was.value
    pub stays : (r : BlockRef) → 0 < times r (refs_of m was.value) → after r ≡ m r
    -- the blocks of every other element's value stay
    pub apart : (number other : ℕ) (e : Element V) → (number ≢ db) ⊎ (other ≢ at)
        → item (table_at old number) other ≡ Some e → (r : BlockRef) → 0 < times r (refs_of m e.value) → after r ≡ m r
    pub calm : wants later now.key ≡ false
    pub tops : SameTops old new

module _ {V E : Type 0} (refs_of : Blocks → V → List BlockRef) (marks : Blocks → V → Marks)
    (tables : Blocks → V → Tables (List ℕ)) (encoding : V → E) (m after : Blocks) (later : Heap) (old new : Bases V) where
  -- A part of an element's blocks was passed: its key's block where there is no mark, and those of its value from the
  -- mark on.
  pub record PassesElement (db at : ℕ) (mark : Option ℕ) (room : ℕ) (answer : Moved) : Type 0 where
    pub was : Element V
    pub now : Element V
    pub replaces : Replaces old new db at was now
    -- the blocks of every other element's value stay
    pub apart : (number other : ℕ) (e : Element V) → (number ≢ db) ⊎ (other ≢ at)
        → item (table_at old number) other ≡ Some e → (r : BlockRef) → 0 < times r (refs_of m e.value) → after r ≡ m r
    pub name_passed : mark ≡ None → wants later now.key ≡ false
    pub name_stays : IsSome mark → now.key ≡ was.key
    pub same_marks : marks after now.value ≡ marks m was.value
    pub same_encoding : encoding now.value ≡ encoding was.value
    pub same_tables : tables after now.value ≡ tables m was.value
    pub tops : SameTops old new
    pub passed : ArePassed later (is_passed (unwrap_or mark 0) answer.next) (marks after now.value).named
        (refs_of m was.value) (refs_of after now.value)
    -- how many blocks and vacant item numbers were passed, the key's own block among them
    pub bounded : IsBounded (names_from mark + passed_of (marks after now.value) (unwrap_or mark 0) answer.next)
        (unwrap_or mark 0) room answer
