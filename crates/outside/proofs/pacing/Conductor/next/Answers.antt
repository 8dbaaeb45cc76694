use Rattle.std.proofs.Common.{arith}
use Rattle.outside.proofs.Conducting.{drops_spent, asks_next, has_none}
use Rattle.outside.proofs.pacing.Conductor.next.Goals as goal

pub pacers-init : goal.pacers-init
pacers-init g c = λ plan new h. h

pub pacers-preserved : goal.pacers-preserved
pacers-preserved g c = λ plan new later. c.pacers.invariant plan new
    (drops_spent c.pacers.self.pacers.items (λ b. (goal.Pacer-dyn g (b.vtable, b.value)).pacing b.value) c.pacers.self.front c.index.result.now plan new (omega arith) c.index.ensures
    (rw c.if-not-is_spent.false at c.is_spent.ensures) later)

pub returns-then-not-is_spent : goal.returns-then-not-is_spent
returns-then-not-is_spent g c = rw c.cut.ensures
    (c.pacers.invariant _ _
    (asks_next c.pacers.self.pacers.items (λ b. (goal.Pacer-dyn g (b.vtable, b.value)).pacing b.value) c.pacers.self.front c.index.result.now c.index_mut.result.now _ c.plan_of.result
    (omega arith) c.index.ensures c.index_mut.ensures.value (rw c.if-not-is_spent.true at c.is_spent.ensures) c.plan_of.ensures))

pub returns : goal.returns
returns g c = c.pacers.invariant _ _ (has_none c.pacers.self.pacers.items (λ b. (goal.Pacer-dyn g (b.vtable, b.value)).pacing b.value) c.pacers.self.front (omega arith))
