use Rattle.std.proofs.Common.{drop}
use Rattle.plain_model.specs.Scans.{keys_sought}
use Rattle.keyspace.specs.Shown.{PassesAt}
use Rattle.keyspace.proofs.Sifting.{Completes}
use Rattle.cmd_keys.proofs.keys.scanning.passing_of.Given as goal

abbrev pub invariant-loop-item : goal.invariant-loop-item
invariant-loop-item g l = Completes (PassesAt l.keyspace.bases (g.B.BlockStore.blocks l.keyspace.store) l.at (keys_sought l.at.db l.options)) l.items (drop l.item-index l.items) l.names.items
