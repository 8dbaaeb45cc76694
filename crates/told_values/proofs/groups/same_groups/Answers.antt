use Rattle.told_values.proofs.Grouped.{groups_tell}
use Rattle.told_values.proofs.groups.same_groups.Goals as goal

pub returns : goal.returns
returns c = groups_tell c.args.groups.now c.args.other.now c.requires.groups c.requires.other c.same_listed.result c.same_listed.ensures
