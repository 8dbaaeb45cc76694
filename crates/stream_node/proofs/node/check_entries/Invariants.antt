use Rattle.stream_node.specs.Rest.{rest_of}
use Rattle.stream_node.specs.Reading.{master_of}
use Rattle.stream_node.proofs.Checks.{IsPassed}
use Rattle.stream_node.proofs.node.check_entries.Given as goal

abbrev pub invariant-loop : goal.invariant-loop
invariant-loop l = IsPassed l.key (master_of l.head) (rest_of l.first) (rest_of l.rest) l.last l.marked l.counter
