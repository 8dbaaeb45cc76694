-- What a stream depends on.
use Rattle.std.specs.Prelude.{◌≡◌, ℕ, List, ◌++◌, length}
use Rattle.blocks.specs.declared.BlockRef.{BlockRef}
use Rattle.blocks.specs.Blocks.{Blocks, IsIn, Changes, Owned}
use Rattle.stream_node.specs.declared.id.Id.{Id}
use Rattle.stream_node.specs.Ids.{IsId}
use Rattle.stream_groups.specs.Groups.{Groups}
use Rattle.stream_object.specs.declared.stream.Stream.{Stream as Log}
use Rattle.stream_object.specs.Streams.{AreUpto, IsStream, marks, nodes, refs, stream_of}

-- the stream is the same in both stores
pub record Stays (a b : Blocks) (s : Log) : Type 0 where
  pub value_is : stream_of b s ≡ stream_of a s
  pub refs_are : refs b s ≡ refs a s
  pub marks_are : marks b s ≡ marks a s
  pub sound : IsStream a s → IsStream b s

pub record StreamLaws : Type 0 where
  -- a stream depends on the blocks that it owns, and on no other
  pub own : (a b : Blocks) (s : Log) → ((r : BlockRef) → IsIn r (refs a s) → b r ≡ a r) → Stays a b s
  -- what others change among their blocks leaves it
  pub others : (a b : Blocks) (s : Log) (old new : List BlockRef) → Owned (refs a s ++ old) a → Changes a b old new
      → Stays a b s
  -- it owns its blocks
  pub owned : (m : Blocks) (s : Log) → IsStream m s → Owned (refs m s) m
  -- each of its blocks has a mark
  pub marked : (m : Blocks) (s : Log) → length (marks m s) ≡ length (refs m s)
  -- other groups leave it sound, and so does a last id that isn't below any entry of its nodes
  pub regrouped : (m : Blocks) (s : Log) (groups : Groups) → IsStream m s → IsStream m (record s { groups = groups })
  pub remarked : (m : Blocks) (s : Log) (last deleted : Id) (added : ℕ) → IsStream m s → IsId last
      → AreUpto last (nodes m s) → IsStream m (record s { last = last; deleted = deleted; added = added })
