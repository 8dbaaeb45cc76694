use Rattle.std.proofs.Common.{[], ◌∷◌, ap}
use Rattle.std.specs.FinMap.{get}
use Rattle.plain_world.specs.declared.reply.Part.TheVariants.{Null}
use Rattle.plain_model.specs.ZsetSteps.{score_or_null}
use Rattle.keyspace.specs.Commands.{visible}
use Rattle.cmd_zsets.proofs.Looking.{told_none, no_score}
use Rattle.cmd_zsets.proofs.reading.zscore.Goals as goal

pub returns-in-Missing : goal.returns-in-Missing
returns-in-Missing g c = record {
  gives = told_none (visible g.B.BlockStore.blocks c.args.keyspace.now c.args.at.now) c.args.key.now (λ scores. score_or_null (get scores c.args.member.now) ∷ []) (Null ∷ [])
      c.null.result c.in-Missing.ensures (ap (λ o. score_or_null o ∷ []) (no_score c.args.member.now)) c.null.ensures;
}
