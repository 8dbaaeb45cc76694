-- What a table of scores depends on, and what its list of pairs is.
use Rattle.std.specs.Prelude.{◌≡◌, List, ◌++◌, length}
use Rattle.std.specs.FinMap.{len}
use Rattle.blocks.specs.declared.BlockRef.{BlockRef}
use Rattle.blocks.specs.Blocks.{Blocks, IsIn, Changes, Owned}
use Rattle.score_list.specs.Sorted.{Key}
use Rattle.score_table.specs.declared.table.ScoreTable.{ScoreTable}
use Rattle.score_table.specs.Ranking.{ScoreMap, IsRanking}
use Rattle.score_table.specs.Scored.{IsScoreTable, IsArranged, scores, ranked, refs, tables}

-- A table of scores depends on the blocks that it owns, and on no other.
pub record ScoreTableLaws : Type 0 where
  -- where those are the same, so is what it means, and it is sound
  pub own : (a b : Blocks) (s : ScoreTable) → ((r : BlockRef) → IsIn r (refs s) → b r ≡ a r) → scores b s ≡ scores a s
  pub sound : (a b : Blocks) (s : ScoreTable) → ((r : BlockRef) → IsIn r (refs s) → b r ≡ a r) → IsScoreTable a s
      → IsScoreTable b s × (ranked b s ≡ ranked a s) × (tables b s ≡ tables a s)
  -- what others change among their blocks leaves what it means, and it is sound
  pub others : (a b : Blocks) (s : ScoreTable) (old new : List BlockRef) → Owned (refs s ++ old) a → Changes a b old new
      → scores b s ≡ scores a s
  pub stays : (a b : Blocks) (s : ScoreTable) (old new : List BlockRef) → Owned (refs s ++ old) a → Changes a b old new
      → IsScoreTable a s → IsScoreTable b s
  -- its blocks are live, and none stands twice
  pub owned : (blocks : Blocks) (s : ScoreTable) → IsScoreTable blocks s → Owned (refs s) blocks
  -- its pairs stand in order in one list, whose length is the number of members
  pub ranking : (blocks : Blocks) (s : ScoreTable) → IsScoreTable blocks s
      → IsRanking (scores blocks s) (ranked blocks s)
  pub counted : (blocks : Blocks) (s : ScoreTable) → IsScoreTable blocks s
      → length (ranked blocks s) ≡ len (scores blocks s)
  -- each of its members has exactly one item number
  pub arranged : (blocks : Blocks) (s : ScoreTable) → IsScoreTable blocks s → IsArranged blocks s
  -- a map has one such list
  pub unique : (map : ScoreMap) (xs ys : List Key) → IsRanking map xs → IsRanking map ys → xs ≡ ys
