use Rattle.std.proofs.Common.{◌≡◌, ◌≤◌, ◌++◌, length, map}
use Rattle.stream_node.specs.View.{stored}
use Rattle.stream_node.specs.Views.{left_of}
use Rattle.stream_object.specs.Ranges.{taken}
use Rattle.stream_object.proofs.Picks.{picked_of}
use Rattle.stream_object.proofs.picking.take_forth.Given as goal

abbrev pub invariant-loop-entry : goal.invariant-loop-entry
invariant-loop-entry l = record {
  joined : map stored l.yielded ++ left_of l.entry-iterator ≡ left_of l.initial.entry-iterator;
  found : map taken l.found.items ≡ map taken l.fn.found.items ++ picked_of l.wanted.from l.wanted.to l.yielded;
  within : length l.found.items ≤ l.wanted.limit;
}
