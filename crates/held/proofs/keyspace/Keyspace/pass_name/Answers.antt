use Rattle.std.proofs.Common.{◌∙◌, sym}
use Rattle.held.proofs.Relocating.{stays_passes}
use Rattle.held.proofs.keyspace.Keyspace.pass_name.Goals as goal

pub returns-else-wants_move-clause-passes : goal.returns-else-wants_move-clause-passes
returns-else-wants_move-clause-passes g c =
    stays_passes g.V.Stored.refs_of g.V.Stored.value_of g.met.V.Stored.reads_own (g.B.BlockStore.blocks c.args.self.now.store) (g.B.BlockStore.heap c.args.self.now.store)
    c.args.self.now.bases c.args.db c.args.at c.key-name.result c.requires.element c.key-name.ensures
    (sym c.wants_move.ensures ∙ c.if-wants_move.false)
