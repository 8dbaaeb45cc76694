use Rattle.std.proofs.Common.{[], ◌∙◌}
use Rattle.keyspace.specs.Scopes.{no_key}
use Rattle.keyspace.proofs.Uses.{sound_is_intact}
use Rattle.keyspace.proofs.Running.{held_unwritten}
use Rattle.cmd_keys.proofs.Emptying.{selected_purged, purged_count}
use Rattle.cmd_keys.proofs.connection.count_live.Goals as goal

pub count-requires-clause-intact : goal.count-requires-clause-intact
count-requires-clause-intact g c = sound_is_intact c.purge.new.self.bases _ [] (c.purge.ensures.sound [] c.requires.ready.sound)

pub returns-clause-count : goal.returns-clause-count
returns-clause-count g c = c.count.ensures ∙ purged_count c.args.at.now c.args.keyspace.now.bases c.purge.new.self.bases _ _ c.purge.ensures.means

pub returns-clause-world : goal.returns-clause-world
returns-clause-world g c = selected_purged c.args.at.now c.args.keyspace.now.bases c.purge.new.self.bases _ _ c.purge.ensures.means

pub returns-clause-held : goal.returns-clause-held
returns-clause-held g c =
    held_unwritten g.B.BlockStore.blocks g.B.BlockStore.step (no_key c.args.at.now.db) c.args.keyspace.now c.purge.new.self (λ number key no. no.1) c.requires.ready.sound
    (c.purge.ensures.sound [] c.requires.ready.sound) c.purge.ensures.served c.purge.ensures.settings c.purge.ensures.within
