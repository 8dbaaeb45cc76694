use Rattle.std.proofs.Common.{◌∙◌}
use Rattle.stream_groups.proofs.Copies.{same_under_names}
use Rattle.stream_groups.proofs.groups.Groups.copy.Goals as goal

pub returns : goal.returns
returns c = same_under_names c.self.inside.groups.entries c.in_ok-clone.field-0.entries c.in_ok-clone.ensures.cases ∙ c.self.view_is
