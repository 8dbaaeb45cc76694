use Rattle.std.proofs.Common.{◌≡◌, drop}
use Rattle.plain_model.specs.SetSteps.{in_all}
use Rattle.keyspace.specs.Commands.{visible}
use Rattle.cmd_sets.specs.Joined.{sets_here}
use Rattle.cmd_sets.proofs.joining.in_each.Given as goal

abbrev pub invariant-loop-key : goal.invariant-loop-key
invariant-loop-key g l =
    let world = visible g.B.BlockStore.blocks l.keyspace l.at in
    in_all (sets_here world (drop l.key-index l.keys)) l.name ≡ in_all (sets_here world l.keys) l.name
