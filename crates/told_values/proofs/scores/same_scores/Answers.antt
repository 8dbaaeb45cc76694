use Rattle.std.proofs.Common.{arith}
use Rattle.std.proofs.lemmas.Bool.Decides.{Decides-at}
use Rattle.told_values.proofs.Alike.{maps_differ, scores_tell}
use Rattle.told_values.proofs.scores.same_scores.Goals as goal

pub returns-then-len : goal.returns-then-len
returns-then-len c =
    maps_differ (λ score. score) c.args.scores.now.entries c.args.other.now.entries c.len.ensures.ordered c.len-2.ensures.ordered
    (λ e. omega (arith, e, c.if-len.true, c.len.ensures.len, c.len-2.ensures.len))

pub returns : goal.returns
returns c = Decides-at c.eq.result _ c.eq.ensures (scores_tell c.args.scores.now.entries c.args.other.now.entries c.len.ensures.ordered c.len-2.ensures.ordered)
