use Rattle.std.proofs.Common.{◌-◌}
use Rattle.intset.specs.Places.{IsBetween}
use Rattle.intset.proofs.ints.Ints.search.Given as goal

abbrev pub invariant-halves : goal.invariant-halves
invariant-halves l = IsBetween l.self l.n l.low l.high

abbrev pub decreases-halves : goal.decreases-halves
decreases-halves l = l.high - l.low
