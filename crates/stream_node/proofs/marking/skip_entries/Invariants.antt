use Rattle.std.proofs.Common.{◌≡◌}
use Rattle.stream_node.specs.Rest.{rest_of}
use Rattle.stream_node.specs.Reading.{master_of}
use Rattle.stream_node.specs.Marked.{behind_entries}
use Rattle.stream_node.proofs.marking.skip_entries.Given as goal

abbrev pub invariant-loop : goal.invariant-loop
invariant-loop l = rest_of l.rest ≡ behind_entries (master_of l.head) l.counter (rest_of l.first)
