use Rattle.std.proofs.Common.{◌≡◌, ◌≤◌, ◌-◌, length}
use Rattle.outside.specs.Streams.{TakesAll}
use Rattle.rdb_reader.proofs.fetch.take_all.Given as goal

abbrev pub invariant-pieces : goal.invariant-pieces
invariant-pieces g l = record {
  took : TakesAll (g.H.Host.seen l.fn.host).reading (g.H.Host.seen l.host).reading l.bytes.items;
  begun : (g.H.Host.seen l.host).begun ≡ (g.H.Host.seen l.fn.host).begun;
  same : (g.H.Host.seen l.host).files ≡ (g.H.Host.seen l.fn.host).files;
  within : length l.bytes.items ≤ l.limit;
}

abbrev pub decreases-pieces : goal.decreases-pieces
decreases-pieces g l = l.limit - length l.bytes.items
