use Rattle.std.proofs.Common.{refl}
use Rattle.keyspace.specs.Commands.{visible}
use Rattle.cmd_values.proofs.StringLemmas.{old_value_then}
use Rattle.cmd_values.proofs.strings.reading.get.Goals as goal

pub returns-in-Some : goal.returns-in-Some
returns-in-Some g c = old_value_then (visible g.B.BlockStore.blocks c.args.keyspace.now c.args.at.now) (visible g.B.BlockStore.blocks c.args.keyspace.now c.args.at.now) c.args.key.now
    c.in-Some.reply _ (rw c.in-Some.is at c.in_ok-old_value.ensures) refl
