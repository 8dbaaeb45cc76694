use Rattle.keyspace.proofs.Running.{same_held}
use Rattle.keyspace.specs.Scopes.{two_keys}
use Rattle.keyspace.specs.Forms.{AsAt}
use Rattle.keyspace.proofs.Forming.{formed_none}
use Rattle.cmd_keys.proofs.keys.moving.rename_key.Goals as goal

pub returns-then-eq-clause-held : goal.returns-then-eq-clause-held
returns-then-eq-clause-held g c =
    same_held g.B.BlockStore.blocks g.B.BlockStore.step (two_keys c.args.at.now.db c.args.from.now c.args.at.now.db c.args.to.now) c.args.keyspace.now c.requires.ready.sound

pub returns-then-eq-clause-forms : goal.returns-then-eq-clause-forms
returns-then-eq-clause-forms g c = formed_none g.B.BlockStore.blocks (AsAt c.args.at.now.db c.args.from.now) c.args.keyspace.now
