use Rattle.std.proofs.Common.{◌≡◌, ◌-◌, length}
use Rattle.listpack.specs.Pack.{offset_of, texts}
use Rattle.listpack.proofs.walks.Pack.offset_from_back.Given as goal

abbrev pub invariant-loop : goal.invariant-loop
invariant-loop l = l.at ≡ offset_of l.self.bytes.now (length (texts l.self.bytes.now) - l.counter)
