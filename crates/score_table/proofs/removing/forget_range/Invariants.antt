use Rattle.std.proofs.Common.{◌≤◌, length}
use Rattle.std.specs.Prelude.{MatchOption}
use Rattle.std.specs.List.{remove_range as range_removed}
use Rattle.blocks.specs.Blocks.{Served}
use Rattle.score_list.specs.Cursor.{IsCursor}
use Rattle.score_table.specs.Scored.{LeavesRange, table_of}
use Rattle.score_table.proofs.removing.forget_range.Given as goal

abbrev pub invariant-loop : goal.invariant-loop
invariant-loop g l =
    let blocks = g.B.BlockStore.blocks in
    record {
      begun : l.from ≤ l.counter;
      bound : l.counter ≤ l.to;
      next : MatchOption l.next (length l.list ≤ l.counter) (λ cursor. IsCursor cursor l.list l.counter);
      leaves : LeavesRange (blocks l.fn.store) (blocks l.store) (table_of l.fn.table l.list) (table_of l.table (range_removed l.list l.from l.counter)) l.from l.counter;
      served : Served g.B.BlockStore.step l.fn.store l.store;
    }
