use Rattle.std.proofs.Common.{subst}
use Rattle.stream_groups.specs.Consumers.{IsAt, IsGap}
use Rattle.stream_groups.proofs.Gaps.{known, unknown}
use Rattle.stream_groups.proofs.consumers.Consumers.contains.Goals as goal

pub returns-in-Ok : goal.returns-in-Ok
returns-in-Ok c = known c.self.inside.names.items c.args.self.now c.args.name.now c.in-Ok.field-0 c.self.invariant c.self.view_is
    (subst (λ xs. IsAt xs c.args.name.now c.in-Ok.field-0) c.deref.ensures.value c.in-Ok.ensures.found)

pub returns-in-Err : goal.returns-in-Err
returns-in-Err c = unknown c.self.inside.names.items c.args.self.now c.args.name.now c.in-Err.field-0 c.self.invariant c.self.view_is
    (subst (λ xs. IsGap xs c.args.name.now c.in-Err.field-0) c.deref.ensures.value c.in-Err.ensures.absent)
