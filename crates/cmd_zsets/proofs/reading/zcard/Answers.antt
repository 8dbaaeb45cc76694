use Rattle.std.proofs.Common.{[], ◌∷◌, ap}
use Rattle.std.specs.Prelude.{pos}
use Rattle.std.specs.FinMap.{len}
use Rattle.plain_world.specs.declared.reply.Part.TheVariants.{Number}
use Rattle.keyspace.specs.Commands.{visible}
use Rattle.cmd_zsets.proofs.Looking.{told_none, no_member}
use Rattle.cmd_zsets.proofs.reading.zcard.Goals as goal

pub returns-in-Missing : goal.returns-in-Missing
returns-in-Missing g c = record {
  gives = told_none (visible g.B.BlockStore.blocks c.args.keyspace.now c.args.at.now) c.args.key.now (λ scores. Number (pos (len scores)) ∷ []) (Number (pos 0) ∷ [])
      c.count_reply.result c.in-Missing.ensures (ap (λ n. Number (pos n) ∷ []) no_member) c.count_reply.ensures;
}
