use Rattle.std.proofs.Common.{[], ◌∷◌, ap, sym, ◌∙◌}
use Rattle.std.specs.Int.{w64}
use Rattle.std.proofs.lemmas.Int.{to_z-of_z}
use Rattle.zset_object.specs.Scored.{scores}
use Rattle.plain_world.specs.declared.reply.Part.TheVariants.{Array}
use Rattle.plain_model.specs.ListSteps.{list_range}
use Rattle.plain_model.specs.ZsetSteps.{met, ranked, listed}
use Rattle.keyspace.specs.Commands.{visible}
use Rattle.cmd_zsets.proofs.Ranked.{ranked_counted}
use Rattle.cmd_zsets.proofs.Looking.{told_none, told_zset}
use Rattle.cmd_zsets.proofs.Nothing.{none_ranged, none_listed, told_as}
use Rattle.cmd_zsets.proofs.ranges.zrange.Goals as goal

pub returns-in-Missing : goal.returns-in-Missing
returns-in-Missing g c = record {
  gives = told_none (visible g.B.BlockStore.blocks c.args.keyspace.now c.args.at.now) c.args.key.now
      (λ scores. listed c.args.with_scores (list_range (met c.args.from (ranked scores)) c.args.a c.args.b)) (Array 0 ∷ [])
      c.empty_reply.result c.in-Missing.ensures (ap (listed c.args.with_scores) (none_ranged c.args.from c.args.a c.args.b) ∙ none_listed c.args.with_scores) c.empty_reply.ensures;
}

pub returns-in-There : goal.returns-in-There
returns-in-There g c =
    let m = g.B.BlockStore.blocks c.args.keyspace.now.store in
    let s = c.in-There.zset.now in
    let list = ranked (scores m s) in
    let long = ranked_counted m s c.in-There.ensures.sound in
    let range = c.by_rank-span.ensures.range list (long ∙ sym (c.len.ensures m c.in-There.ensures.sound)) in
    record {
      gives = told_zset (visible g.B.BlockStore.blocks c.args.keyspace.now c.args.at.now) m c.args.key.now s
          (λ scores. listed c.args.with_scores (list_range (met c.args.from (ranked scores)) c.args.a c.args.b)) c.span_reply.result c.in-There.ensures
          (told_as c.span_reply.result _ _ (ap (listed c.args.with_scores) (rw (to_z-of_z w64 c.args.a c.ranges.a, to_z-of_z w64 c.args.b c.ranges.b) at range)) c.span_reply.ensures);
    }
