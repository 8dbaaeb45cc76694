use Rattle.std.proofs.Common.{sym, ◌∙◌}
use Rattle.keyspace.specs.Commands.{visible}
use Rattle.cmd_sets.proofs.Joined.{missing_lacks, other_lacks, found_has}
use Rattle.cmd_sets.proofs.joining.has_at.Goals as goal

pub returns-in-Missing : goal.returns-in-Missing
returns-in-Missing g c = sym (missing_lacks (visible g.B.BlockStore.blocks c.args.keyspace.now c.args.at.now) c.args.key.now c.args.name.now (rw c.in-Missing.is at c.set_at.ensures))

pub returns-in-Other : goal.returns-in-Other
returns-in-Other g c = sym (other_lacks (visible g.B.BlockStore.blocks c.args.keyspace.now c.args.at.now) c.args.key.now c.args.name.now c.in-Other.ensures)

pub returns-in-There : goal.returns-in-There
returns-in-There g c =
    c.has.ensures ∙ sym
    (found_has (visible g.B.BlockStore.blocks c.args.keyspace.now c.args.at.now) (g.B.BlockStore.blocks c.args.keyspace.now.store) c.args.key.now c.args.name.now _ c.in-There.ensures)
