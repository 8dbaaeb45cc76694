-- What a sorted set depends on, and what its order is.
use Rattle.std.specs.Prelude.{◌≡◌, ◌++◌, List, length}
use Rattle.std.specs.FinMap.{len}
use Rattle.blocks.specs.declared.BlockRef.{BlockRef}
use Rattle.blocks.specs.Blocks.{Blocks, IsIn, Changes, Owned}
use Rattle.score_list.specs.Sorted.{Key}
use Rattle.score_table.specs.Ranking.{ScoreMap, IsRanking}
use Rattle.zset_object.specs.declared.scored.Scored.{Scored}
use Rattle.zset_object.specs.Scored.{IsScored, scores, ranked, refs, tables}
use Rattle.zset_object.specs.Items.{IsArranged}
use Rattle.zset_object.specs.Relocation.{marks}

-- A sorted set depends on the blocks that it owns, and on no other.
pub record ScoredLaws : Type 0 where
  -- where those are the same, so is what it means, and it is sound
  pub own : (a b : Blocks) (s : Scored) → ((r : BlockRef) → IsIn r (refs s) → b r ≡ a r) → scores b s ≡ scores a s
  pub sound : (a b : Blocks) (s : Scored) → ((r : BlockRef) → IsIn r (refs s) → b r ≡ a r)
      → IsScored a s → IsScored b s × (ranked b s ≡ ranked a s) × (tables b s ≡ tables a s)
  -- what others change among their blocks leaves what it means, and it is sound
  pub others : (a b : Blocks) (s : Scored) (old new : List BlockRef) → Owned (refs s ++ old) a
      → Changes a b old new → scores b s ≡ scores a s
  pub stays : (a b : Blocks) (s : Scored) (old new : List BlockRef) → Owned (refs s ++ old) a
      → Changes a b old new → IsScored a s → IsScored b s
  -- each of its references has a mark
  pub marked : (s : Scored) → length (marks s) ≡ length (refs s)
  -- its members stand in order in one list, whose length is their number
  pub ranking : (blocks : Blocks) (s : Scored) → IsScored blocks s → IsRanking (scores blocks s) (ranked blocks s)
  pub counted : (blocks : Blocks) (s : Scored) → IsScored blocks s → length (ranked blocks s) ≡ len (scores blocks s)
  -- a map has one such list
  pub unique : (map : ScoreMap) (xs ys : List Key) → IsRanking map xs → IsRanking map ys → xs ≡ ys
  -- each of its members has exactly one item number
  pub arranged : (blocks : Blocks) (s : Scored) → IsScored blocks s → IsArranged blocks s
