use Rattle.std.proofs.Common.{[], ◌∷◌, ap, ◌∙◌}
use Rattle.plain_world.specs.declared.reply.Part.TheVariants.{Array}
use Rattle.plain_model.specs.ZsetSteps.{met, ranked, listed, within, limited}
use Rattle.keyspace.specs.Commands.{visible}
use Rattle.cmd_zsets.proofs.Looking.{told_none, told_zset}
use Rattle.cmd_zsets.proofs.Nothing.{none_bounded, none_listed}
use Rattle.cmd_zsets.proofs.ranges.zrangebyscore.Goals as goal

pub returns-in-Missing : goal.returns-in-Missing
returns-in-Missing g c = record {
  gives = told_none (visible g.B.BlockStore.blocks c.args.keyspace.now c.args.at.now) c.args.key.now
      (λ scores. listed c.args.with_scores (limited c.args.limit (within c.args.min c.args.max (met c.args.from (ranked scores))))) (Array 0 ∷ [])
      c.empty_reply.result c.in-Missing.ensures (ap (listed c.args.with_scores) (none_bounded c.args.min c.args.max c.args.from c.args.limit) ∙ none_listed c.args.with_scores) c.empty_reply.ensures;
}

pub returns-in-There : goal.returns-in-There
returns-in-There g c = record {
  gives = told_zset (visible g.B.BlockStore.blocks c.args.keyspace.now c.args.at.now) (g.B.BlockStore.blocks c.args.keyspace.now.store) c.args.key.now c.in-There.zset.now
      (λ scores. listed c.args.with_scores (limited c.args.limit (within c.args.min c.args.max (met c.args.from (ranked scores))))) c.bounded_reply.result c.in-There.ensures c.bounded_reply.ensures;
}
