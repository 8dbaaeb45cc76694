use Rattle.std.proofs.Common.{subst}
use Rattle.stream_groups.specs.Consumers.{IsAt, IsGap}
use Rattle.stream_groups.proofs.Gaps.{known, unknown, key_at_in_gaps}
use Rattle.stream_groups.proofs.consumers.Consumers.rank.Goals as goal

pub returns-in-Ok-clause-known : goal.returns-in-Ok-clause-known
returns-in-Ok-clause-known c = known c.self.inside.names.items c.args.self.now c.args.name.now c.in-Ok.at c.self.invariant c.self.view_is
    (subst (λ xs. IsAt xs c.args.name.now c.in-Ok.at) c.deref.ensures.value c.in-Ok.ensures.found)

pub returns-in-Ok-clause-same : goal.returns-in-Ok-clause-same
returns-in-Ok-clause-same c = key_at_in_gaps c.self.inside.names.items c.args.self.now c.args.name.now c.in-Ok.at c.self.invariant c.self.view_is
    (subst (λ xs. IsAt xs c.args.name.now c.in-Ok.at) c.deref.ensures.value c.in-Ok.ensures.found)

pub returns-in-Err-clause-known : goal.returns-in-Err-clause-known
returns-in-Err-clause-known c = unknown c.self.inside.names.items c.args.self.now c.args.name.now c.in-Err.field-0 c.self.invariant c.self.view_is
    (subst (λ xs. IsGap xs c.args.name.now c.in-Err.field-0) c.deref.ensures.value c.in-Err.ensures.absent)
