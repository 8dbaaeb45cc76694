use Rattle.std.proofs.Common.{w64}
use Rattle.std.proofs.lemmas.Int.{to_z-of_z}
use Rattle.score_table.proofs.Ranked.{item_names}
use Rattle.score_table.proofs.table.ScoreTable.entry.Goals as goal

pub returns : goal.returns
returns c = λ m is.
    rw (to_z-of_z w64 c.score_at.result (record { sfits = c.score_at.type_inv }))
    (item_names m c.args.self.now c.args.item c.entry.result.0 c.entry.result.1.now c.score_at.result is c.entry.ensures c.score_at.ensures)
