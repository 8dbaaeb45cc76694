use Rattle.stream_groups.proofs.Owned.{owned_none}
use Rattle.stream_groups.proofs.group.Group.new.Goals as goal

pub invariant_of-result : goal.invariant_of-result
invariant_of-result c = owned_none _ _ c.new-2.ensures
