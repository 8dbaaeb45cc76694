use Rattle.std.proofs.Common.{arith, add-one, refl, ◌∙◌}
use Rattle.std.proofs.lemmas.Grind.{common_steps}
use Rattle.outside.proofs.Conducting.{tuned_none, tuned_all, tuned_more}
use Rattle.outside.proofs.pacing.Conductor.new.Goals as goal

pub loop-at-init : goal.loop-at-init
loop-at-init g c = record { count = refl; tuned = tuned_none c.args.pacers.items (λ b. (goal.Pacer-dyn g (b.vtable, b.value)).pacing b.value) c.args.effort }

pub loop-at-preserved : goal.loop-at-preserved
loop-at-preserved g c = record {
  count = grind (arith, common_steps);
  tuned = rw add-one
      (tuned_more c.args.pacers.items c.loop-at.pacers.items (λ b. (goal.Pacer-dyn g (b.vtable, b.value)).pacing b.value) c.args.effort c.loop-at.at c.index_mut.result.now _
      c.loop-at.invariant.tuned (omega arith) c.index_mut.ensures.value c.tune_one.ensures);
}

pub returns : goal.returns
returns g c = c.loop-at.invariant.tuned ∙ tuned_all c.args.pacers.items (λ b. (goal.Pacer-dyn g (b.vtable, b.value)).pacing b.value) c.args.effort c.loop-at.at (omega arith)
