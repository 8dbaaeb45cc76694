use Rattle.std.proofs.Common.{ap, sym, ◌∙◌}
use Rattle.zset_object.specs.Scored.{scores}
use Rattle.plain_model.specs.ZsetSteps.{ranked, listed, limited}
use Rattle.cmd_zsets.proofs.Ranked.{ranked_counted}
use Rattle.cmd_zsets.proofs.Nothing.{told_as}
use Rattle.cmd_zsets.proofs.ranges.bounded_reply.Goals as goal

pub returns : goal.returns
returns g c =
    let m = g.B.BlockStore.blocks c.args.store.now in
    let s = c.args.zset.now in
    let list = ranked (scores m s) in
    told_as c.span_reply.result _ _
    (ap (listed c.args.with_scores)
    (c.limit_span-span.ensures.range list (ranked_counted m s c.requires.sound ∙ sym (c.len.ensures m c.requires.sound)) ∙ ap (limited c.args.limit) c.by_score-whole.ensures.range))
    c.span_reply.ensures
