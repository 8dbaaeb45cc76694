use Rattle.std.proofs.Common.{◌≡◌, drop}
use Rattle.plain_model.specs.GroupSteps.{first_refusal}
use Rattle.keyspace.specs.Commands.{visible}
use Rattle.cmd_streams.proofs.delivering.refusal_among.Given as goal

abbrev pub invariant-loop-one : goal.invariant-loop-one
invariant-loop-one g l =
    let world = visible g.B.BlockStore.blocks l.keyspace l.at in
    first_refusal world l.group (drop l.one-index l.asked) ≡ first_refusal world l.group l.asked
