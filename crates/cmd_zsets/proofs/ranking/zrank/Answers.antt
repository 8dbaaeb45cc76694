use Rattle.std.proofs.Common.{ap}
use Rattle.std.specs.Prelude.{None}
use Rattle.plain_model.specs.ZsetSteps.{met, ranked, place_from, tell_place}
use Rattle.keyspace.specs.Commands.{visible}
use Rattle.cmd_zsets.proofs.Looking.{told_none, told_zset}
use Rattle.cmd_zsets.proofs.Nothing.{none_placed, told_as}
use Rattle.cmd_zsets.proofs.ranking.zrank.Goals as goal

pub returns-in-Missing : goal.returns-in-Missing
returns-in-Missing g c = record {
  gives = told_none (visible g.B.BlockStore.blocks c.args.keyspace.now c.args.at.now) c.args.key.now
      (λ scores. tell_place c.args.with_score (place_from 0 c.args.member.now (met c.args.from (ranked scores)))) (tell_place c.args.with_score None)
      c.place_reply.result c.in-Missing.ensures (ap (tell_place c.args.with_score) (none_placed c.args.from c.args.member.now)) c.place_reply.ensures;
}

pub returns-in-There : goal.returns-in-There
returns-in-There g c = record {
  gives = told_zset (visible g.B.BlockStore.blocks c.args.keyspace.now c.args.at.now) (g.B.BlockStore.blocks c.args.keyspace.now.store) c.args.key.now c.in-There.zset.now
      (λ scores. tell_place c.args.with_score (place_from 0 c.args.member.now (met c.args.from (ranked scores)))) c.place_reply-in-There.result c.in-There.ensures
      (told_as c.place_reply-in-There.result _ _ (ap (tell_place c.args.with_score) c.place_of-place.ensures) c.place_reply-in-There.ensures);
}
