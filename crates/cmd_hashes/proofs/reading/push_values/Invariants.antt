use Rattle.std.proofs.Common.{◌≡◌, ◌++◌, length}
use Rattle.cmd_hashes.specs.Found.{fields_in, values_of}
use Rattle.cmd_hashes.proofs.reading.push_values.Given as goal

abbrev pub invariant-names : goal.invariant-names
invariant-names g l =
    let hash = fields_in (g.B.BlockStore.blocks l.store) l.hash in
    l.parts ++ values_of hash l.rest ≡ l.fn.parts ++ values_of hash l.names

abbrev pub decreases-names : goal.decreases-names
decreases-names g l = length l.rest
