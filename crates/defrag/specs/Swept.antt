-- Which blocks a walk has passed, and what a pass is while it stands there.
use Rattle.std.specs.Prelude.{◌≡◌, ◌⊎◌, ℕ, ◌<◌, List, ◌∷◌, Option, None, Some}
use Rattle.std.specs.List.{slice_get}
use Rattle.blocks.specs.declared.BlockRef.{BlockRef}
use Rattle.blocks.specs.Blocks.{IsIn}
use Rattle.blocks.specs.Slabs.{Heap, Swept}
use Rattle.held.specs.Table.{Element, item}
use Rattle.held.specs.Databases.{Bases, table_at}
use Rattle.stored.specs.Passing.{Marks}
use Rattle.defrag.specs.declared.walk.Walk.{Walk}

-- the reference names a block of a value whose mark is below this one
pub record IsBelow (refs : List BlockRef) (marks : List ℕ) (bound : ℕ) (r : BlockRef) : Type 0 where
  pub index : ℕ
  pub mark : ℕ
  pub named : slice_get refs index ≡ Some r
  pub marked : slice_get marks index ≡ Some mark
  pub below : mark < bound

module _ {V : Type 0} (refs_of : V → List BlockRef) (marks : V → Marks) where
  -- the reference names a block of the element before this place inside it: its key's comes before all of its value
  abbrev pub ComesBefore : Element V → Option ℕ → BlockRef → Type 0
  ComesBefore e None r = ⊥
  ComesBefore e (Some bound) r = (r ≡ e.key) ⊎ IsBelow (refs_of e.value) (marks e.value).named bound r

  -- The walk has passed the block: one of a key of a lower database, one of a key of a lower item number in its own, or
  -- one of its item's that comes before its mark.
  pub data HasPassed (bases : Bases V) (walk : Walk) (r : BlockRef) : Type 0 where
    of_database : (number at : ℕ) (e : Element V) → number < walk.database → item (table_at bases number) at ≡ Some e
        → IsIn r (e.key ∷ refs_of e.value) → HasPassed bases walk r
    of_item : (at : ℕ) (e : Element V) → at < walk.item → item (table_at bases walk.database) at ≡ Some e
        → IsIn r (e.key ∷ refs_of e.value) → HasPassed bases walk r
    of_mark : (e : Element V) → item (table_at bases walk.database) walk.item ≡ Some e → ComesBefore e walk.mark r
        → HasPassed bases walk r

  -- a pass is open, as many slabs are kept in each class as are needed, and no block that was passed wants to move
  abbrev pub IsSwept : Bases V → Heap → Walk → Type 0
  IsSwept bases heap walk = Swept heap (HasPassed bases walk)
