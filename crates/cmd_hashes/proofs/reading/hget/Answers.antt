use Rattle.std.proofs.Common.{[], ◌∷◌, ap}
use Rattle.std.specs.FinMap.{get}
use Rattle.plain_world.specs.declared.reply.Part.TheVariants.{Null}
use Rattle.plain_model.specs.HashSteps.{value_or_null}
use Rattle.keyspace.specs.Commands.{visible}
use Rattle.cmd_hashes.proofs.Looking.{told_none, no_value}
use Rattle.cmd_hashes.proofs.reading.hget.Goals as goal

pub returns-in-Missing : goal.returns-in-Missing
returns-in-Missing g c = record {
  gives = told_none (visible g.B.BlockStore.blocks c.args.keyspace.now c.args.at.now) c.args.key.now (λ fields. value_or_null (get fields c.args.field.now) ∷ []) (Null ∷ [])
      c.null.result c.in-Missing.ensures (ap (λ o. value_or_null o ∷ []) (no_value c.args.field.now)) c.null.ensures;
}
