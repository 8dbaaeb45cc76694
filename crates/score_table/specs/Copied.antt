-- What a copy of a table of scores has.
use Rattle.std.specs.Prelude.{◌≡◌, ℕ, ℤ, List, [], Some}
use Rattle.std.specs.FinMap.{insert}
use Rattle.blocks.specs.Blocks.{Blocks, Changes}
use Rattle.rehash_dict.specs.Keyed.{hash_of}
use Rattle.rehash_dict.specs.Grown.{Grown}
use Rattle.score_table.specs.declared.table.ScoreTable.{ScoreTable}
use Rattle.score_table.specs.Ranking.{ScoreMap}
use Rattle.score_table.specs.Scored.{IsScoreTable, IsChanged, pair_at, scores, refs, seed_of, tables, no_tables}

-- It has these members and scores, over blocks that were placed for it, and its tables come from none by edits.
pub record IsCopied (before after : Blocks) (seed : ℕ) (copy : ScoreTable) (map : ScoreMap) : Type 0 where
  pub sound : IsScoreTable after copy
  pub scores_are : scores after copy ≡ map
  pub changes : Changes before after [] (refs copy)
  pub grown : Grown (hash_of seed) no_tables (tables after copy)
  pub seed_is : seed_of copy ≡ seed

-- Another table has the member of an item number too now.
pub record TakesOver (before after : Blocks) (s old new : ScoreTable) (at : ℕ) : Type 0 where
  pub score : ℤ
  pub member : List ℕ
  pub pair : pair_at before s at ≡ Some (score, member)
  pub changed : IsChanged before after old new (insert (scores before old) member score)
