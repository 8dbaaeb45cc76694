use Rattle.std.proofs.Common.{◌≡◌}
use Rattle.stream_node.specs.Views.{left_of}
use Rattle.rdb_streams.specs.Seeing.{seen_behind}
use Rattle.rdb_streams.proofs.nodes.behind_node.Given as goal

abbrev pub invariant-loop-entry : goal.invariant-loop-entry
invariant-loop-entry l = seen_behind l.more (left_of l.entry-iterator) ≡ seen_behind l.initial.more (left_of l.initial.entry-iterator)
