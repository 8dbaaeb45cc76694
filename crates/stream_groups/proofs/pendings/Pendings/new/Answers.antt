use Rattle.stream_groups.proofs.Shares.{shares_none}
use Rattle.stream_groups.proofs.pendings.Pendings.new.Goals as goal

pub invariant_of-result : goal.invariant_of-result
invariant_of-result c = shares_none c.new-2.result c.new.result c.new-2.ensures c.new.ensures
