use Rattle.std.proofs.Common.{subst}
use Rattle.stream_groups.specs.Groups.{IsOwned}
use Rattle.stream_groups.proofs.group.Group.last.Goals as goal

pub returns-clause-owned : goal.returns-clause-owned
returns-clause-owned c = subst IsOwned c.self.view_is c.self.invariant
