-- What a hash depends on, and how its fields stand in it.
use Rattle.std.specs.Prelude.{◌≡◌, List, ◌++◌, length}
use Rattle.blocks.specs.declared.BlockRef.{BlockRef}
use Rattle.blocks.specs.Blocks.{Blocks, IsIn, Changes, Owned}
use Rattle.hash_object.specs.declared.fields.Fields.{Fields}
use Rattle.hash_object.specs.Fields.{IsFields, fields, refs, tables}
use Rattle.hash_object.specs.Items.{IsArranged}
use Rattle.hash_object.specs.Relocation.{marks}

-- A hash depends on the blocks that it owns, and on no other.
pub record FieldsLaws : Type 0 where
  -- where those are the same, so are its fields and its tables, and it is sound
  pub own : (a b : Blocks) (f : Fields) → ((r : BlockRef) → IsIn r (refs f) → b r ≡ a r) → fields b f ≡ fields a f
  pub sound : (a b : Blocks) (f : Fields) → ((r : BlockRef) → IsIn r (refs f) → b r ≡ a r)
      → IsFields a f → IsFields b f × (tables b f ≡ tables a f)
  -- what others change among their blocks leaves its fields, and it is sound
  pub others : (a b : Blocks) (f : Fields) (old new : List BlockRef) → Owned (refs f ++ old) a
      → Changes a b old new → fields b f ≡ fields a f
  pub stays : (a b : Blocks) (f : Fields) (old new : List BlockRef) → Owned (refs f ++ old) a
      → Changes a b old new → IsFields a f → IsFields b f
  -- each of its references has a mark
  pub marked : (f : Fields) → length (marks f) ≡ length (refs f)
  -- each field stands once in the hash's own order, with its value, and has exactly one item number
  pub arranged : (blocks : Blocks) (f : Fields) → IsFields blocks f → IsArranged blocks f
