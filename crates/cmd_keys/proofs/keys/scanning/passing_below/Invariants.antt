use Rattle.std.proofs.Common.{◌-◌}
use Rattle.plain_model.specs.Scans.{keys_sought}
use Rattle.keyspace.specs.Shown.{PassesAt}
use Rattle.cmd_keys.specs.Sieve.{numbers}
use Rattle.keyspace.proofs.Sifting.{Completes}
use Rattle.cmd_keys.proofs.keys.scanning.passing_below.Given as goal

abbrev pub invariant-loop-item : goal.invariant-loop-item
invariant-loop-item g l = Completes (PassesAt l.keyspace.bases (g.B.BlockStore.blocks l.keyspace.store) l.at (keys_sought l.at.db l.options)) (numbers l.top 0)
    (numbers (l.top - l.item) l.item) l.names.items
