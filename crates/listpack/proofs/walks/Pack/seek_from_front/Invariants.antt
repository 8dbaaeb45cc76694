use Rattle.listpack.specs.Pack.{IsAt}
use Rattle.listpack.proofs.walks.Pack.seek_from_front.Given as goal

abbrev pub invariant-loop : goal.invariant-loop
invariant-loop l = IsAt l.self.bytes.now l.counter l.at
