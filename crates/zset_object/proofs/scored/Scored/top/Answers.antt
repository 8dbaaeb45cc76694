use Rattle.std.proofs.Common.{sym, ap, ◌∙◌, subst, ◌<◌, ℕ}
use Rattle.zset_object.proofs.Depends.{below_of}
use Rattle.zset_object.specs.Items.{top_in}
use Rattle.zset_object.proofs.scored.Scored.top.Goals as goal

pub returns-in-Empty-clause-above : goal.returns-in-Empty-clause-above
returns-in-Empty-clause-above c = λ m is at some. subst (λ (n : ℕ). at < n) (ap top_in c.in-Empty.is) (below_of m c.args.self.now.limits c.args.self.now.seed c.args.self.now.body is.body at some)

pub returns-in-Pack-clause-above : goal.returns-in-Pack-clause-above
returns-in-Pack-clause-above c = λ m is at some. subst (λ (n : ℕ). at < n) (ap top_in c.in-Pack.is) (below_of m c.args.self.now.limits c.args.self.now.seed c.args.self.now.body is.body at some)

pub returns-in-Table-clause-above : goal.returns-in-Table-clause-above
returns-in-Table-clause-above c = λ m is at some. subst (λ (n : ℕ). at < n) (ap top_in c.in-Table.is ∙ sym c.top.ensures.value)
    (below_of m c.args.self.now.limits c.args.self.now.seed c.args.self.now.body is.body at some)
