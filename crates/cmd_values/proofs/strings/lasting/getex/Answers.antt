use Rattle.std.proofs.Common.{sym, subst}
use Rattle.keyspace.specs.Commands.{visible}
use Rattle.plain_model.specs.declared.times.Renewal.{Renewal}
use Rattle.plain_model.specs.declared.command.StringCommand.TheVariants as strings
use Rattle.cmd_values.specs.Found.{Gives}
use Rattle.keyspace.proofs.Running.{unchanged}
use Rattle.keyspace.specs.Scopes.{no_key}
use Rattle.cmd_values.proofs.strings.lasting.getex.Goals as goal

pub returns-in-Unchanged-clause-gives : goal.returns-in-Unchanged-clause-gives
returns-in-Unchanged-clause-gives g c =
    subst (λ (r : Renewal). Gives g.B.BlockStore.blocks c.args.keyspace.now c.args.keyspace.now c.args.at.now (strings.GetEx c.args.key.now r) c.get.result) (sym c.in-Unchanged.is)
    c.get.ensures

pub returns-in-Unchanged-clause-kept : goal.returns-in-Unchanged-clause-kept
returns-in-Unchanged-clause-kept g c =
    unchanged g.B.BlockStore.blocks g.B.BlockStore.step (no_key c.args.at.now.db) c.args.keyspace.now _ c.requires.ready.sound
