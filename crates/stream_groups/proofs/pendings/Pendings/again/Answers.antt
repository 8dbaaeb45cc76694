use Rattle.std.proofs.Common.{sym, subst}
use Rattle.stream_groups.specs.Index.{Indexes}
use Rattle.stream_groups.proofs.Shares.{shares_again}
use Rattle.stream_groups.proofs.pendings.Pendings.again.Goals as goal

pub invariant_of-self : goal.invariant_of-self
invariant_of-self c = subst (Indexes c.self.inside.index) (sym c.again.ensures.new) (shares_again c.self.inside.index c.self.inside.entries c.args.id c.args.moment c.self.invariant)
