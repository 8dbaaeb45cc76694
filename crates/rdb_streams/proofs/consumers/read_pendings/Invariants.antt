use Rattle.std.proofs.Common.{◌-◌, ◌≤◌, length}
use Rattle.stream_groups.specs.Groups.{Group}
use Rattle.rdb_grammar.specs.StreamParts.{with_unclaimed}
use Rattle.rdb_streams.proofs.Counted.{CountsOn}
use Rattle.rdb_streams.proofs.consumers.read_pendings.Given as goal

abbrev pub invariant-pendings : goal.invariant-pendings
invariant-pendings l = record {
  turns : (group : Group) → CountsOn with_unclaimed l.bytes l.at (record { group = group; unclaimed = l.fn.unclaimed }) l.next (l.count - l.counter)
      (record { group = group; unclaimed = l.unclaimed });
  inside : l.next ≤ length l.bytes;
}
