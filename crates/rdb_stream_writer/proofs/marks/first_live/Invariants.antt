use Rattle.std.proofs.Common.{◌≡◌, [], ◌++◌, map}
use Rattle.stream_node.specs.View.{stored}
use Rattle.stream_node.specs.Views.{left_of}
use Rattle.stream_object.specs.Parts.{live_of}
use Rattle.rdb_stream_writer.proofs.marks.first_live.Given as goal

abbrev pub invariant-loop-entry : goal.invariant-loop-entry
invariant-loop-entry l = record {
  joined : map stored l.yielded ++ left_of l.entry-iterator ≡ left_of l.initial.entry-iterator;
  none : live_of (map stored l.yielded) ≡ [];
}
