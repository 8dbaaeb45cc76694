use Rattle.std.proofs.Common.{◌≡◌}
use Rattle.listpack.specs.Pack.{offset_of}
use Rattle.listpack.proofs.walks.Pack.offset_from_front.Given as goal

abbrev pub invariant-loop : goal.invariant-loop
invariant-loop l = l.at ≡ offset_of l.self.bytes.now l.counter
