use Rattle.std.proofs.Common.{◌∙◌}
use Rattle.stream_groups.proofs.Places.{groups_len}
use Rattle.stream_groups.proofs.groups.Groups.groups.Goals as goal

pub returns : goal.returns
returns c = c.len.ensures.len ∙ groups_len c.self.inside.groups.entries c.args.self.now c.self.invariant c.self.view_is
