use Rattle.std.proofs.Common.{[], ◌∷◌, ap}
use Rattle.std.specs.Prelude.{pos}
use Rattle.std.specs.FinMap.{get}
use Rattle.plain_world.specs.declared.reply.Part.TheVariants.{Number}
use Rattle.plain_model.specs.HashSteps.{value_length}
use Rattle.keyspace.specs.Commands.{visible}
use Rattle.cmd_hashes.proofs.Looking.{told_none, no_value}
use Rattle.cmd_hashes.proofs.reading.hstrlen.Goals as goal

pub returns-in-Missing : goal.returns-in-Missing
returns-in-Missing g c = record {
  gives = told_none (visible g.B.BlockStore.blocks c.args.keyspace.now c.args.at.now) c.args.key.now (λ fields. Number (pos (value_length (get fields c.args.field.now))) ∷ []) (Number (pos 0) ∷ [])
      c.count_reply.result c.in-Missing.ensures (ap (λ o. Number (pos (value_length o)) ∷ []) (no_value c.args.field.now)) c.count_reply.ensures;
}
