use Rattle.std.proofs.Common.{◌≡◌, ap, ◌∙◌, sym, arith}
use Rattle.digests.specs.Siphash.{rounds, round}
use Rattle.digests.proofs.Rounds.{rounds_zero, rounds_next}
use Rattle.digests.proofs.siphash.State.rounds.Goals as goal

pub loop-init : goal.loop-init
loop-init c = sym (rounds_zero c.args.self)

pub loop-preserved : goal.loop-preserved
loop-preserved c = c.round-state.ensures ∙ (ap round c.loop.invariant ∙ sym (rounds_next c.loop.counter c.args.self))

pub returns : goal.returns
returns c = let all : c.loop.counter ≡ c.args.count = omega arith in c.loop.invariant ∙ ap (λ n. rounds n c.args.self) all
