use Rattle.std.proofs.Common.{◌≡◌, ◌-◌, ◌≤◌, length}
use Rattle.rdb_grammar.specs.StreamParts.{with_group}
use Rattle.rdb_streams.proofs.Counted.{CountsOn}
use Rattle.rdb_streams.proofs.groups.read_groups.Given as goal

abbrev pub invariant-groups : goal.invariant-groups
invariant-groups l = record {
  turns : CountsOn (with_group l.stream_type) l.bytes l.at l.fn.stream.groups l.next (l.count - l.counter) l.stream.groups;
  inside : l.next ≤ length l.bytes;
  others : l.stream ≡ record l.fn.stream { groups = l.stream.groups };
}
