use Rattle.std.proofs.Common.{[]}
use Rattle.keyspace.specs.Scopes.{all_keys}
use Rattle.keyspace.proofs.Running.{held_unwritten}
use Rattle.cmd_keys.proofs.Emptying.{selected_emptied}
use Rattle.cmd_keys.proofs.connection.clear_selected.Goals as goal

pub returns-clause-world : goal.returns-clause-world
returns-clause-world g c = selected_emptied c.args.at.now c.args.keyspace.now.bases c.clear.new.self.bases _ _ c.clear.ensures.means

pub returns-clause-held : goal.returns-clause-held
returns-clause-held g c =
    held_unwritten g.B.BlockStore.blocks g.B.BlockStore.step (all_keys c.args.at.now.db) c.args.keyspace.now c.clear.new.self (λ number key no. no) c.requires.ready.sound
    (c.clear.ensures.sound [] c.requires.ready.sound) c.clear.ensures.served c.clear.ensures.settings c.clear.ensures.within
