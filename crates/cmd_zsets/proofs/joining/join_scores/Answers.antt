use Rattle.std.proofs.Common.{ap, ◌∙◌, rules, FitsSigned}
use Rattle.std.specs.FinMap.{get}
use Rattle.std.specs.Int.{w64}
use Rattle.std.proofs.lemmas.Int.{to_z-of_z}
use Rattle.plain_model.specs.ZsetSteps.{weighted}
use Rattle.plain_model.specs.declared.zset_command.ScoreJoin.TheVariants.{Union}
use Rattle.keyspace.specs.Commands.{visible}
use Rattle.cmd_zsets.specs.Joined.{gathered, met_with, scores_at}
use Rattle.cmd_zsets.proofs.Gathered.{none_gathered}
use Rattle.cmd_zsets.proofs.Joins.{no_join, some_join}
use Rattle.cmd_zsets.proofs.joining.join_scores.Goals as goal

pub returns-in-None : goal.returns-in-None
returns-in-None g c =
    let world = visible g.B.BlockStore.blocks c.args.keyspace.now c.args.at.now in
    no_join world c.args.join c.args.how c.args.keys.now (gathered c.new-all.result) c.in-None.ensures.cases (none_gathered c.new-all.result c.new-all.ensures.empty)

pub returns-in_ok-add_each-in-Some : goal.returns-in_ok-add_each-in-Some
returns-in_ok-add_each-in-Some g c =
    let world = visible g.B.BlockStore.blocks c.args.keyspace.now c.args.at.now in
    let first = c.in-Some.first.now in
    let fits : FitsSigned w64 first.0 = search rules in
    some_join world c.args.join c.args.how c.args.keys.now c.in-Some.others.now first (gathered c.new-all.result) (gathered c.add_at.new.all) (gathered c.add_each.new.all)
    c.in-Some.ensures.cases.0 (none_gathered c.new-all.result c.new-all.ensures.empty)
    (λ q. (rw (to_z-of_z w64 first.0 fits) at c.in_ok-add_at-in-Some.ensures q)
    ∙ ap (λ k. met_with Union c.args.how (get (gathered c.new-all.result) q) (weighted first.0 (get (scores_at world k) q))) c.as_slice.ensures)
    c.in_ok-add_each-in-Some.ensures
