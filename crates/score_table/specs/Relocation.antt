-- What a move of one member's block leaves.
use Rattle.std.specs.Prelude.{◌≡◌, ℕ, ℤ, false, is_some, Some}
use Rattle.blocks.specs.Blocks.{Blocks, Changes}
use Rattle.blocks.specs.Slabs.{Heap, wants}
use Rattle.rehash_dict.specs.Table.{Element, item}
use Rattle.score_table.specs.declared.table.ScoreTable.{ScoreTable}
use Rattle.score_table.specs.Scored.{IsScoreTable, scores, ranked, refs, seed_of, tables}

-- Blocks of members moved: all means what it meant, a member stands at each item number at which one stood, and these
-- item numbers keep their blocks.
pub record IsRelocatedTable (before after : Blocks) (old new : ScoreTable) (stays : ℕ → Type 0) : Type 0 where
  pub sound : IsScoreTable after new
  pub scores_are : scores after new ≡ scores before old
  pub ranked_are : ranked after new ≡ ranked before old
  pub tables_are : tables after new ≡ tables before old
  pub changes : Changes before after (refs old) (refs new)
  pub seed : seed_of new ≡ seed_of old
  pub top : new.table.top ≡ old.table.top
  pub same_items : (at : ℕ) → is_some (item new.table at) ≡ is_some (item old.table at)
  pub others : (at : ℕ) → stays at → item new.table at ≡ item old.table at

-- the block of the member of an item number wants no move
abbrev pub IsCalm : Heap → ScoreTable → ℕ → Type 0
IsCalm heap s at = (e : Element ℤ) → item s.table at ≡ Some e → wants heap e.key ≡ false
