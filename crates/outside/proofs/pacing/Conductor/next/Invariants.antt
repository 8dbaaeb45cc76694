use Rattle.std.proofs.Common.{◌-◌, length, map, drop, List}
use Rattle.outside.specs.declared.pacing.Plan.{Plan}
use Rattle.outside.specs.Pacing.{PacerSeen, Conducts}
use Rattle.outside.proofs.pacing.Conductor.next.Given as goal

-- what the pacers from here on answer, those at first answer
abbrev pub invariant-pacers : goal.invariant-pacers
invariant-pacers g l = (plan : Plan) (new : List PacerSeen) → Conducts (map (λ b. (goal.Pacer-dyn g (b.vtable, b.value)).pacing b.value) (drop l.self.front l.self.pacers.items)) plan new
    → Conducts (map (λ b. (goal.Pacer-dyn g (b.vtable, b.value)).pacing b.value) (drop l.initial.self.front l.initial.self.pacers.items)) plan new

abbrev pub decreases-pacers : goal.decreases-pacers
decreases-pacers g l = length l.self.pacers.items - l.self.front
