use Rattle.keyspace.proofs.Running.{unchanged}
use Rattle.keyspace.specs.Scopes.{two_keys}
use Rattle.keyspace.specs.Commands.{visible}
use Rattle.keyspace.specs.Forms.{AsAt, key_form}
use Rattle.keyspace.proofs.Forming.{unformed, written_where}
use Rattle.cmd_keys.proofs.keys.moving.renamenx.Goals as goal
use Rattle.std.proofs.Common.{ap}
use Rattle.std.specs.Prelude.{not}
use Rattle.plain_model.specs.declared.keys.KeyCommand.TheVariants as commands

pub returns-in-None-clause-kept : goal.returns-in-None-clause-kept
returns-in-None-clause-kept g c =
    unchanged g.B.BlockStore.blocks g.B.BlockStore.step (two_keys c.args.at.now.db c.args.from.now c.args.at.now.db c.args.to.now) c.args.keyspace.now _ c.requires.ready.sound

pub returns-in-None-free_place-clause-kept : goal.returns-in-None-free_place-clause-kept
returns-in-None-free_place-clause-kept g c =
    unchanged g.B.BlockStore.blocks g.B.BlockStore.step (two_keys c.args.at.now.db c.args.from.now c.args.at.now.db c.args.to.now) c.args.keyspace.now _ c.requires.ready.sound

pub returns-in-None-clause-forms : goal.returns-in-None-clause-forms
returns-in-None-clause-forms g c =
    unformed g.B.BlockStore.blocks (key_form c.args.at.now.db (visible g.B.BlockStore.blocks c.args.keyspace.now c.args.at.now) (commands.RenameNx c.args.from.now c.args.to.now)) c.args.keyspace.now _

pub returns-in-None-free_place-clause-forms : goal.returns-in-None-free_place-clause-forms
returns-in-None-free_place-clause-forms g c =
    unformed g.B.BlockStore.blocks (key_form c.args.at.now.db (visible g.B.BlockStore.blocks c.args.keyspace.now c.args.at.now) (commands.RenameNx c.args.from.now c.args.to.now)) c.args.keyspace.now _

pub returns-in_ok-rename_key-in-Some-free_place-clause-forms : goal.returns-in_ok-rename_key-in-Some-free_place-clause-forms
returns-in_ok-rename_key-in-Some-free_place-clause-forms g c =
    written_where g.B.BlockStore.blocks c.args.keyspace.now c.rename_key.new.keyspace _ (AsAt c.args.at.now.db c.args.from.now) _ (ap not c.in-Some-free_place.ensures.free)
    c.in_ok-rename_key-in-Some-free_place.ensures.forms
