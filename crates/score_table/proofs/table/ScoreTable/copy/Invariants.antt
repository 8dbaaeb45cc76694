use Rattle.blocks.specs.Blocks.{Served}
use Rattle.score_table.proofs.Copies.{IsPart}
use Rattle.score_table.proofs.table.ScoreTable.copy.Given as goal

abbrev pub invariant-loop-item : goal.invariant-loop-item
invariant-loop-item g l = record {
  part : IsPart (g.B.BlockStore.blocks l.initial.store) (g.B.BlockStore.blocks l.store) l.fn.seed l.self l.copy l.item;
  served : Served g.B.BlockStore.step l.initial.store l.store;
}
