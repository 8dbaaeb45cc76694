use Rattle.std.proofs.Common.{List, ◌≡◌, ◌+◌, ◌∷◌, ap, ◌∙◌, drop, rules, FitsSigned}
use Rattle.std.specs.FinMap.{get}
use Rattle.std.specs.Int.{w64}
use Rattle.std.proofs.lemmas.Int.{to_z-of_z}
use Rattle.plain_model.specs.ZsetSteps.{Scored, weighted}
use Rattle.keyspace.specs.Commands.{visible}
use Rattle.cmd_zsets.specs.Joined.{gathered, met_with, scores_at}
use Rattle.cmd_zsets.proofs.Rests.{rest_from}
use Rattle.cmd_zsets.proofs.Joins.{one_key_more}
use Rattle.cmd_zsets.proofs.joining.add_each.Goals as goal

pub loop-key-preserved : goal.loop-key-preserved
loop-key-preserved g c =
    let world = visible g.B.BlockStore.blocks c.args.keyspace.now c.args.at.now in
    let key = c.key-item.result in
    let others : List Scored = drop (c.loop-key.key-index + 1) c.args.keys.now in
    let rest : drop c.loop-key.key-index c.args.keys.now ≡ key ∷ others = rest_from c.args.keys.now c.loop-key.key-index key (search rules) c.key-item.is in
    let fits : FitsSigned w64 key.0 = search rules in
    λ member. one_key_more world c.args.join c.args.how (drop c.loop-key.key-index c.args.keys.now) others key (gathered c.loop-key.all) (gathered c.add_at.new.all) member rest
    ((rw (to_z-of_z w64 key.0 fits) at c.in_ok-add_at.ensures member)
    ∙ ap (λ k. met_with c.args.join c.args.how (get (gathered c.loop-key.all) member) (weighted key.0 (get (scores_at world k) member))) c.as_slice.ensures)
    ∙ c.loop-key.invariant member
