use Rattle.std.proofs.Common.{[], ◌∷◌, ap, length, ◌∙◌, arith}
use Rattle.std.specs.Prelude.{pos}
use Rattle.zset_object.specs.Scored.{scores}
use Rattle.plain_world.specs.declared.reply.Part.TheVariants.{Number}
use Rattle.plain_model.specs.ZsetSteps.{within, ranked}
use Rattle.keyspace.specs.Commands.{visible}
use Rattle.cmd_zsets.proofs.Ranked.{ranked_counted}
use Rattle.cmd_zsets.proofs.Told.{span_long}
use Rattle.cmd_zsets.proofs.Looking.{told_none, told_zset}
use Rattle.cmd_zsets.proofs.Nothing.{none_counted, told_as}
use Rattle.cmd_zsets.proofs.ranges.zcount.Goals as goal

pub returns-in-Missing : goal.returns-in-Missing
returns-in-Missing g c = record {
  gives = told_none (visible g.B.BlockStore.blocks c.args.keyspace.now c.args.at.now) c.args.key.now (λ scores. Number (pos (length (within c.args.min c.args.max (ranked scores)))) ∷ [])
      (Number (pos 0) ∷ [])
      c.count_reply.result c.in-Missing.ensures (ap (λ n. Number (pos n) ∷ []) (none_counted c.args.min c.args.max)) c.count_reply.ensures;
}

pub returns-in-There : goal.returns-in-There
returns-in-There g c =
    let m = g.B.BlockStore.blocks c.args.keyspace.now.store in
    let s = c.in-There.zset.now in
    let list = ranked (scores m s) in
    let long = ranked_counted m s c.in-There.ensures.sound in
    record {
      gives = told_zset (visible g.B.BlockStore.blocks c.args.keyspace.now c.args.at.now) m c.args.key.now s
          (λ scores. Number (pos (length (within c.args.min c.args.max (ranked scores)))) ∷ []) c.count_reply-in-There.result c.in-There.ensures
          (told_as c.count_reply-in-There.result _ _
          (ap (λ n. Number (pos n) ∷ []) (span_long c.by_score-span.result list (omega (arith, long, c.by_score-span.ensures.inside)) ∙ ap length c.by_score-span.ensures.range))
          c.count_reply-in-There.ensures);
    }
