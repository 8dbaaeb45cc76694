use Rattle.std.proofs.Common.{◌≡◌, length}
use Rattle.plain_model.specs.StringSteps.{any_there}
use Rattle.keyspace.specs.Commands.{seen}
use Rattle.cmd_values.proofs.strings.writing.is_any_there.Given as goal

abbrev pub invariant-pairs : goal.invariant-pairs
invariant-pairs g l =
    let world = seen l.at l.keyspace.bases (g.B.BlockStore.blocks l.keyspace.store) in
    any_there world l.rest ≡ any_there world l.pairs

abbrev pub decreases-pairs : goal.decreases-pairs
decreases-pairs g l = length l.rest
