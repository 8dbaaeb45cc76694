use Rattle.std.proofs.Common.{arith}
use Rattle.std.proofs.lemmas.Bool.Decides.{Decides-at}
use Rattle.told_values.proofs.Alike.{maps_differ, members_tell}
use Rattle.told_values.proofs.sets.same_names.Goals as goal

pub returns-then-len : goal.returns-then-len
returns-then-len c =
    maps_differ (λ nothing. nothing) c.args.names.now.entries c.args.other.now.entries c.len.ensures.ordered c.len-2.ensures.ordered
    (λ e. omega (arith, e, c.if-len.true, c.len.ensures.len, c.len-2.ensures.len))

pub returns : goal.returns
returns c = Decides-at c.eq.result _ c.eq.ensures (members_tell c.args.names.now.entries c.args.other.now.entries c.len.ensures.ordered c.len-2.ensures.ordered)
