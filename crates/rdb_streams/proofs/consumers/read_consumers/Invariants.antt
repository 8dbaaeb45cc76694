use Rattle.std.proofs.Common.{◌-◌, ◌≤◌, IsTrue, length}
use Rattle.std.specs.FinMap.{contains_key}
use Rattle.rdb_grammar.specs.StreamParts.{with_consumer}
use Rattle.rdb_streams.specs.Grouped.{ChangesGroup, begun_in}
use Rattle.rdb_streams.proofs.Counted.{CountsOn}
use Rattle.rdb_streams.proofs.consumers.read_consumers.Given as goal

abbrev pub invariant-consumers : goal.invariant-consumers
invariant-consumers l = record {
  turns : CountsOn (with_consumer l.stream_type) l.bytes l.at (begun_in l.fn.stream.groups l.name l.fn.unclaimed) l.next (l.count - l.counter) (begun_in l.stream.groups l.name l.unclaimed);
  inside : l.next ≤ length l.bytes;
  there : IsTrue (contains_key l.stream.groups l.name);
  others : ChangesGroup l.fn.stream l.stream l.name;
}
