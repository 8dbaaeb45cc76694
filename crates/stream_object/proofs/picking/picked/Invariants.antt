use Rattle.std.proofs.Common.{◌≡◌, ◌++◌, map}
use Rattle.stream_node.specs.View.{stored}
use Rattle.stream_node.specs.Views.{left_of}
use Rattle.stream_object.specs.Ranges.{seen}
use Rattle.stream_object.proofs.Picks.{picked_of}
use Rattle.stream_object.proofs.picking.picked.Given as goal

abbrev pub invariant-loop-entry : goal.invariant-loop-entry
invariant-loop-entry l = record {
  joined : map stored l.yielded ++ left_of l.entry-iterator ≡ left_of l.initial.entry-iterator;
  picked : map seen l.picked.items ≡ picked_of l.from l.to l.yielded;
}
