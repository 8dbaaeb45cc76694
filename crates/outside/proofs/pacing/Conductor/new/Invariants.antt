use Rattle.std.proofs.Common.{◌≡◌, length, map}
use Rattle.outside.proofs.Conducting.{tuned_to}
use Rattle.outside.proofs.pacing.Conductor.new.Given as goal

abbrev pub invariant-loop-at : goal.invariant-loop-at
invariant-loop-at g l = record {
  count : length l.pacers.items ≡ length l.initial.pacers.items;
  tuned : map (λ b. (goal.Pacer-dyn g (b.vtable, b.value)).pacing b.value) l.pacers.items ≡ tuned_to (λ b. (goal.Pacer-dyn g (b.vtable, b.value)).pacing b.value) l.effort l.at l.initial.pacers.items;
}
