use Rattle.std.proofs.Common.{[], ◌∷◌, ap}
use Rattle.std.specs.Prelude.{pos, is_some}
use Rattle.std.specs.FinMap.{get}
use Rattle.plain_world.specs.declared.reply.Part.TheVariants.{Number}
use Rattle.plain_model.specs.HashSteps.{one_if}
use Rattle.keyspace.specs.Commands.{visible}
use Rattle.cmd_hashes.proofs.Looking.{told_none, no_value}
use Rattle.cmd_hashes.proofs.reading.hexists.Goals as goal

pub returns-in-Missing : goal.returns-in-Missing
returns-in-Missing g c = record {
  gives = told_none (visible g.B.BlockStore.blocks c.args.keyspace.now c.args.at.now) c.args.key.now (λ fields. Number (one_if (is_some (get fields c.args.field.now))) ∷ []) (Number (pos 0) ∷ [])
      c.number.result c.in-Missing.ensures (ap (λ o. Number (one_if (is_some o)) ∷ []) (no_value c.args.field.now)) c.number.ensures;
}
