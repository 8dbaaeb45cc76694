use Rattle.std.proofs.Common.{◌≡◌, drop, is_some}
use Rattle.plain_model.specs.ZsetSteps.{zsets_at}
use Rattle.keyspace.specs.Commands.{visible}
use Rattle.cmd_zsets.proofs.joining.are_sources.Given as goal

abbrev pub invariant-loop-key : goal.invariant-loop-key
invariant-loop-key g l =
    let world = visible g.B.BlockStore.blocks l.keyspace l.at in
    is_some (zsets_at world (drop l.key-index l.keys)) ≡ is_some (zsets_at world l.keys)
