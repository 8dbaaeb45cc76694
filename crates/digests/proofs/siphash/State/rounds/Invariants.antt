use Rattle.std.proofs.Common.{◌≡◌}
use Rattle.digests.specs.Siphash.{rounds}
use Rattle.digests.proofs.siphash.State.rounds.Given as goal

abbrev pub invariant-loop : goal.invariant-loop
invariant-loop l = l.state ≡ rounds l.counter l.fn.self
