use Rattle.std.proofs.Common.{[], sym, ap, subst, ◌∙◌}
use Rattle.plain_world.specs.Worlds.{live}
use Rattle.blocks.specs.Blocks.{Served, no_step}
use Rattle.keyspace.specs.Databases.{means}
use Rattle.keyspace.specs.Sound.{Sound}
use Rattle.keyspace.specs.Scopes.{no_key, Within}
use Rattle.keyspace.proofs.Running.{held_unwritten}
use Rattle.keyspace.proofs.Seen.{timed}
use Rattle.keyspace.proofs.deadlines.retime.Goals as goal

pub returns-in-Ok-clause-world : goal.returns-in-Ok-clause-world
returns-in-Ok-clause-world g c entry seen =
    ap (λ s. live (means c.args.at.now.db c.set_sought.new.self.bases (g.B.BlockStore.blocks s)) c.args.at.now.moment) c.set_sought.ensures.store
    ∙ timed (means c.args.at.now.db c.args.keyspace.now.bases (g.B.BlockStore.blocks c.args.keyspace.now.store))
    (means c.args.at.now.db c.set_sought.new.self.bases (g.B.BlockStore.blocks c.args.keyspace.now.store)) c.args.at.now.moment c.args.key.now entry c.args.to seen
    c.in-Ok.ensures.means c.requires.late

pub returns-in-Ok-clause-held : goal.returns-in-Ok-clause-held
returns-in-Ok-clause-held g c =
    held_unwritten g.B.BlockStore.blocks g.B.BlockStore.step (no_key c.args.at.now.db) c.args.keyspace.now c.set_sought.new.self (λ number key no. no.1) c.requires.ready.sound
    (subst (λ s. Sound c.set_sought.new.self.bases (g.B.BlockStore.blocks s)) (sym c.set_sought.ensures.store) (c.set_sought.ensures.sound [] c.requires.ready.sound))
    (subst (Served g.B.BlockStore.step c.args.keyspace.now.store) (sym c.set_sought.ensures.store) no_step) c.set_sought.ensures.settings
    (subst (λ s. Within (no_key c.args.at.now.db) c.args.keyspace.now.bases c.set_sought.new.self.bases (g.B.BlockStore.blocks c.args.keyspace.now.store) (g.B.BlockStore.blocks s))
    (sym c.set_sought.ensures.store) c.set_sought.ensures.within)

pub returns-in-Err-clause-held : goal.returns-in-Err-clause-held
returns-in-Err-clause-held g c =
    held_unwritten g.B.BlockStore.blocks g.B.BlockStore.step (no_key c.args.at.now.db) c.args.keyspace.now c.set_sought.new.self (λ number key no. no.1) c.requires.ready.sound
    (subst (λ s. Sound c.set_sought.new.self.bases (g.B.BlockStore.blocks s)) (sym c.set_sought.ensures.store) (c.set_sought.ensures.sound [] c.requires.ready.sound))
    (subst (Served g.B.BlockStore.step c.args.keyspace.now.store) (sym c.set_sought.ensures.store) no_step) c.set_sought.ensures.settings
    (subst (λ s. Within (no_key c.args.at.now.db) c.args.keyspace.now.bases c.set_sought.new.self.bases (g.B.BlockStore.blocks c.args.keyspace.now.store) (g.B.BlockStore.blocks s))
    (sym c.set_sought.ensures.store) c.set_sought.ensures.within)
