use Rattle.std.proofs.Common.{◌≡◌, ◌++◌, length}
use Rattle.cmd_values.specs.Found.{values_at}
use Rattle.keyspace.specs.Commands.{seen}
use Rattle.cmd_values.proofs.strings.reading.push_values.Given as goal

abbrev pub invariant-keys : goal.invariant-keys
invariant-keys g l =
    let world = seen l.at l.keyspace.bases (g.B.BlockStore.blocks l.keyspace.store) in
    l.parts ++ values_at world l.rest ≡ l.fn.parts ++ values_at world l.keys

abbrev pub decreases-keys : goal.decreases-keys
decreases-keys g l = length l.rest
