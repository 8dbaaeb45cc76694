use Rattle.std.proofs.Common.{sym, ap, subst, ◌∙◌}
use Rattle.std.specs.FinMap as map
use Rattle.stream_groups.specs.Consumers.{names_of, Rise, IsAt, IsGap}
use Rattle.stream_groups.proofs.Gaps.{get_unknown, names_without, rise_without, remove_unknown}
use Rattle.stream_groups.proofs.consumers.Consumers.drop_name.Goals as goal

pub invariant_of-self : goal.invariant_of-self
invariant_of-self c = subst Rise (sym c.remove.ensures.items) (rise_without c.self.inside.names.items c.in-Ok.at c.self.invariant)

pub returns-in-Ok : goal.returns-in-Ok
returns-in-Ok c = ap names_of c.remove.ensures.items ∙ names_without c.self.inside.names.items c.args.name.now c.in-Ok.at c.self.invariant
    (subst (λ xs. IsAt xs c.args.name.now c.in-Ok.at) c.deref.ensures.value c.in-Ok.ensures.found) ∙ ap (λ m. map.remove m c.args.name.now) c.self.view_is

pub returns-in-Err : goal.returns-in-Err
returns-in-Err c = sym
    (remove_unknown c.args.self.now c.args.name.now
    (get_unknown c.self.inside.names.items c.args.self.now c.args.name.now c.in-Err.field-0 c.self.invariant c.self.view_is
    (subst (λ xs. IsGap xs c.args.name.now c.in-Err.field-0) c.deref.ensures.value c.in-Err.ensures.absent)))
