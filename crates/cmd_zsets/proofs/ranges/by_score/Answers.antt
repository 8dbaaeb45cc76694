use Rattle.std.proofs.Common.{◌≤◌, sym, ◌∙◌, refl, arith}
use Rattle.zset_object.specs.Scored.{scores}
use Rattle.plain_model.specs.ZsetSteps.{ranked, is_below}
use Rattle.cmd_zsets.proofs.Ranked.{model_ranking, ranked_counted}
use Rattle.cmd_zsets.proofs.Bounded.{within_is, at_most_all}
use Rattle.cmd_zsets.proofs.Reaches.{start_inside}
use Rattle.cmd_zsets.proofs.ranges.by_score.Goals as goal

pub start_met-requires : goal.start_met-requires
start_met-requires g c =
    let m = g.B.BlockStore.blocks c.args.store.now in
    let s = c.args.zset.now in
    omega (arith, c.len.ensures m c.requires.sound, ranked_counted m s c.requires.sound, c.up_to_bound-high.ensures, at_most_all (λ x. is_below c.args.max x.0) (ranked (scores m s)))

pub returns-clause-inside : goal.returns-clause-inside
returns-clause-inside g c =
    let m = g.B.BlockStore.blocks c.args.store.now in
    let size = c.len.ensures m c.requires.sound in
    let all = ranked_counted m c.args.zset.now c.requires.sound in
    let few = at_most_all (λ x. is_below c.args.max x.0) (ranked (scores m c.args.zset.now)) in
    let most : c.up_to_bound-high.result ≤ c.len.result = omega (arith, size, all, few, c.up_to_bound-high.ensures) in
    let least : c.min-low.result ≤ c.up_to_bound-high.result = omega (arith, c.min-low.ensures) in
    let inside = start_inside c.args.from c.len.result c.min-low.result c.up_to_bound-high.result c.start_met.result least most c.start_met.ensures in
    omega (arith, size, inside)

pub returns-clause-range : goal.returns-clause-range
returns-clause-range g c =
    let m = g.B.BlockStore.blocks c.args.store.now in
    let map = scores m c.args.zset.now in
    within_is c.args.min c.args.max c.args.from (ranked map) c.len.result c.under.result c.up_to_bound-high.result c.min-low.result c.start_met.result _ (model_ranking map).ordered
    (c.len.ensures m c.requires.sound ∙ sym (ranked_counted m c.args.zset.now c.requires.sound)) c.under.ensures c.up_to_bound-high.ensures c.min-low.ensures c.start_met.ensures refl
