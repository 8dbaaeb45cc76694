use Rattle.std.proofs.Common.{subst, sym}
use Rattle.stream_groups.specs.Groups.{AreOwned}
use Rattle.stream_groups.proofs.Owned.{owned_without}
use Rattle.stream_groups.proofs.group.Group.ack.Goals as goal

pub invariant_of-self : goal.invariant_of-self
invariant_of-self c = subst (AreOwned c.self.inside.consumers) (sym c.take.ensures.new) (owned_without c.self.inside.consumers c.self.inside.pending c.args.id c.self.invariant)
