use Rattle.keyspace.specs.Scopes.{no_key}
use Rattle.keyspace.proofs.Running.{same_held}
use Rattle.keyspace.proofs.deadlines.persist_sought.Goals as goal

pub returns-in-None-clause-held : goal.returns-in-None-clause-held
returns-in-None-clause-held g c = same_held g.B.BlockStore.blocks g.B.BlockStore.step (no_key c.args.at.now.db) c.args.keyspace.now c.requires.ready.sound

pub returns-in-None-deadline-clause-held : goal.returns-in-None-deadline-clause-held
returns-in-None-deadline-clause-held g c = same_held g.B.BlockStore.blocks g.B.BlockStore.step (no_key c.args.at.now.db) c.args.keyspace.now c.requires.ready.sound
