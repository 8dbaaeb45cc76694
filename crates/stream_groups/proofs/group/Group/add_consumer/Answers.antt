use Rattle.std.proofs.Common.{subst, sym}
use Rattle.stream_groups.specs.Groups.{AreOwned}
use Rattle.stream_groups.proofs.Owned.{owned_added}
use Rattle.stream_groups.proofs.group.Group.add_consumer.Goals as goal

pub invariant_of-self-2 : goal.invariant_of-self-2
invariant_of-self-2 c = subst (λ n. AreOwned n c.self.inside.pending) (sym c.in_ok-add.ensures.ok) (owned_added c.self.inside.consumers c.self.inside.pending c.args.consumer.now c.self.invariant)
