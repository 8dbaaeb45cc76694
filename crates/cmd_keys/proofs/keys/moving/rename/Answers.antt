use Rattle.keyspace.proofs.Running.{unchanged}
use Rattle.keyspace.specs.Scopes.{two_keys}
use Rattle.keyspace.specs.Forms.{AsAt}
use Rattle.keyspace.proofs.Forming.{unformed, formed_ok}
use Rattle.cmd_keys.proofs.keys.moving.rename.Goals as goal

pub returns-in-None-clause-kept : goal.returns-in-None-clause-kept
returns-in-None-clause-kept g c =
    unchanged g.B.BlockStore.blocks g.B.BlockStore.step (two_keys c.args.at.now.db c.args.from.now c.args.at.now.db c.args.to.now) c.args.keyspace.now _ c.requires.ready.sound

pub returns-in-None-clause-forms : goal.returns-in-None-clause-forms
returns-in-None-clause-forms g c = unformed g.B.BlockStore.blocks (AsAt c.args.at.now.db c.args.from.now) c.args.keyspace.now _

pub returns-in_ok-rename_key-in-Some-clause-forms : goal.returns-in_ok-rename_key-in-Some-clause-forms
returns-in_ok-rename_key-in-Some-clause-forms g c = formed_ok g.B.BlockStore.blocks (AsAt c.args.at.now.db c.args.from.now) c.args.keyspace.now c.rename_key.new.keyspace _
    c.in_ok-rename_key-in-Some.ensures.forms
