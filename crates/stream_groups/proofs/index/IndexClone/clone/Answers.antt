use Rattle.std.proofs.Common.{rules, subst, sym, ◌∙◌}
use Rattle.stream_groups.specs.Index.{NoneIsEmpty}
use Rattle.stream_groups.proofs.Copies.{same_under_names}
use Rattle.stream_groups.proofs.index.IndexClone.clone.Goals as goal

pub returns : goal.returns
returns c = record { cases = same_under_names c.self.inside.sets.entries c.in_ok-clone.field-0.entries c.in_ok-clone.ensures.cases ∙ c.self.view_is }

pub invariant_of-result : goal.invariant_of-result
invariant_of-result c = (search rules, subst NoneIsEmpty (sym (same_under_names c.self.inside.sets.entries c.in_ok-clone.field-0.entries c.in_ok-clone.ensures.cases)) c.self.invariant.1)
