use Rattle.std.proofs.Common.{not, sym, ap, ◌∙◌}
use Rattle.std.specs.FinMap.{contains_key}
use Rattle.zset_object.proofs.Bodies.{packed_form, is_listed}
use Rattle.zset_object.proofs.Placing.{index_new}
use Rattle.zset_object.proofs.scored.Scored.set.Goals as goal

pub returns-clause-there : goal.returns-clause-there
returns-clause-there g c =
    let m = g.B.BlockStore.blocks c.args.store.now in
    let self = c.args.self.now in
    let k = c.args.member.now in
    let listed = is_listed m self.limits self.seed self.body c.requires.body (packed_form self.body c.in_default.not-Table) in
    index_new _ k c.index_of-index.result c.is_none.result c.index_of-index.ensures c.is_none.ensures ∙ ap (λ s. not (contains_key s k)) (sym listed.scores_are)
