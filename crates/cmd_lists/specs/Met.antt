-- The elements of a list as they are met from an end.
use Rattle.std.specs.Prelude.{◌≡◌, ◌<◌, ◌≤◌, ℕ, length, Option, Some, None, MatchOption}
use Rattle.blocks.specs.Blocks.{Blocks}
use Rattle.quicklist.specs.declared.cursor.Cursor.{Cursor}
use Rattle.quicklist.specs.Chain.{Chain, elements}
use Rattle.quicklist.specs.Cursor.{IsCursor}
use Rattle.plain_model.specs.ListSteps.{index_from}
use Rattle.plain_model.specs.declared.list_command.ListEnd.{ListEnd}

-- the cursor is the place of the element that is met at k from an end
pub record MeetsAt (end : ListEnd) (blocks : Blocks) (q : Chain) (k : ℕ) (cursor : Cursor) : Type 0 where
  pub inside : k < length (elements blocks q)
  pub place : IsCursor blocks q cursor
  pub index_is : cursor.index ≡ index_from end (length (elements blocks q)) k

-- the same, or none behind the last one
abbrev pub IsMet : ListEnd → Blocks → Chain → ℕ → Option Cursor → Type 0
IsMet end blocks q k place = MatchOption place (length (elements blocks q) ≤ k) (MeetsAt end blocks q k)

-- how many indexes LPOS tells at most: one without a count, all for 0 (Redis command reference, LPOS)
abbrev pub told_at_most : Option ℕ → ℕ
told_at_most None = 1
told_at_most (Some n) = n
