use Rattle.std.proofs.Common.{sym, subst, ◌∙◌}
use Rattle.std.specs.Prelude.{T}
use Rattle.std.specs.FinMap.{is_sorted}
use Rattle.stream_groups.specs.Groups.{name_cmp}
use Rattle.stream_groups.proofs.Copies.{same_listed, same_names}
use Rattle.stream_groups.proofs.consumers.ConsumersClone.clone.Goals as goal

pub invariant_of-result : goal.invariant_of-result
invariant_of-result c = subst (λ es. T (is_sorted name_cmp es)) (sym (same_listed c.self.inside.names.items c.in_ok-clone.field-0.items c.in_ok-clone.ensures.cases.0)) c.self.invariant

pub returns : goal.returns
returns c = record { cases = same_names c.self.inside.names.items c.in_ok-clone.field-0.items c.in_ok-clone.ensures.cases.0 ∙ c.self.view_is }
