use Rattle.std.proofs.Common.{◌≡◌, ◌++◌}
use Rattle.stream_node.specs.View.{stored, pairs_left}
use Rattle.stream_node.proofs.entry.Entry.to_pairs.Given as goal

abbrev pub invariant-loop-field : goal.invariant-loop-field
invariant-loop-field l = l.pairs ++ pairs_left l.field-iterator ≡ (stored l.self).pairs
