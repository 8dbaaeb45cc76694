-- What a set depends on, and how its members stand in it.
use Rattle.std.specs.Prelude.{◌≡◌, List, ◌++◌, length}
use Rattle.blocks.specs.declared.BlockRef.{BlockRef}
use Rattle.blocks.specs.Blocks.{Blocks, IsIn, Changes, Owned}
use Rattle.set_object.specs.declared.members.Members.{Members}
use Rattle.set_object.specs.Members.{IsMembers, members, refs, tables}
use Rattle.set_object.specs.Items.{IsArranged}
use Rattle.set_object.specs.Relocation.{marks}

-- A set depends on the blocks that it owns, and on no other.
pub record MembersLaws : Type 0 where
  -- where those are the same, so are its members and its tables, and it is sound
  pub own : (a b : Blocks) (m : Members) → ((r : BlockRef) → IsIn r (refs m) → b r ≡ a r) → members b m ≡ members a m
  pub sound : (a b : Blocks) (m : Members) → ((r : BlockRef) → IsIn r (refs m) → b r ≡ a r) → IsMembers a m
      → IsMembers b m × (tables b m ≡ tables a m)
  -- what others change among their blocks leaves its members, and it is sound
  pub others : (a b : Blocks) (m : Members) (old new : List BlockRef) → Owned (refs m ++ old) a → Changes a b old new
      → members b m ≡ members a m
  pub stays : (a b : Blocks) (m : Members) (old new : List BlockRef) → Owned (refs m ++ old) a → Changes a b old new
      → IsMembers a m → IsMembers b m
  -- each of its references has a mark
  pub marked : (m : Members) → length (marks m) ≡ length (refs m)
  -- each member stands once in the set's own order, and has exactly one item number
  pub arranged : (blocks : Blocks) (m : Members) → IsMembers blocks m → IsArranged blocks m
