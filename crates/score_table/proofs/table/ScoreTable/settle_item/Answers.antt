use Rattle.std.proofs.Common.{◌≢◌}
use Rattle.score_table.proofs.Settling.{settled_same}
use Rattle.score_table.proofs.table.ScoreTable.settle_item.Goals as goal

pub wants_move-requires : goal.wants_move-requires
wants_move-requires g c = c.requires.keyed.live c.args.item _ c.entry.ensures.found

pub returns-else-is_entry-clause-settled : goal.returns-else-is_entry-clause-settled
returns-else-is_entry-clause-settled g c = settled_same (g.B.BlockStore.blocks c.args.store.now) c.args.self.now (λ i. i ≢ c.args.item) c.requires
