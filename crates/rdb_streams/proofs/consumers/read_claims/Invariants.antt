use Rattle.std.proofs.Common.{◌-◌, ◌≤◌, IfSome, IsTrue, length}
use Rattle.std.specs.FinMap.{contains_key, get}
use Rattle.stream_groups.specs.Groups.{has_consumer}
use Rattle.rdb_grammar.specs.StreamParts.{with_claim}
use Rattle.rdb_streams.specs.Grouped.{ChangesGroup, begun_in}
use Rattle.rdb_streams.proofs.Counted.{CountsOn}
use Rattle.rdb_streams.proofs.consumers.read_claims.Given as goal

abbrev pub invariant-claims : goal.invariant-claims
invariant-claims l = record {
  turns : CountsOn (with_claim l.consumer) l.bytes l.at (begun_in l.fn.stream.groups l.name l.fn.unclaimed) l.next (l.count - l.counter) (begun_in l.stream.groups l.name l.unclaimed);
  inside : l.next ≤ length l.bytes;
  there : IsTrue (contains_key l.stream.groups l.name);
  consumer : IfSome (get l.stream.groups l.name) (λ group. IsTrue (has_consumer l.consumer group));
  others : ChangesGroup l.fn.stream l.stream l.name;
}
