use Rattle.std.proofs.Common.{[], sym, ap, subst, ◌∙◌}
use Rattle.blocks.specs.Blocks.{Served, no_step}
use Rattle.plain_world.specs.Worlds.{selecting}
use Rattle.keyspace.specs.Databases.{means}
use Rattle.keyspace.specs.Sound.{Sound}
use Rattle.keyspace.specs.Scopes.{no_key, Within}
use Rattle.keyspace.proofs.Running.{held_unwritten}
use Rattle.redis_core.proofs.settling.shrink_one.Goals as goal

pub returns-clause-world : goal.returns-clause-world
returns-clause-world g c number =
    ap (λ s. means number c.shrink.new.self.bases (g.B.BlockStore.blocks s)) c.shrink.ensures.store
    ∙ ap (λ w. selecting w number) c.shrink.ensures.means

pub returns-clause-held : goal.returns-clause-held
returns-clause-held g c =
    held_unwritten g.B.BlockStore.blocks g.B.BlockStore.step (no_key c.args.db) c.args.keyspace.now c.shrink.new.self (λ number key no. no.1) c.requires.sound
    (subst (λ s. Sound c.shrink.new.self.bases (g.B.BlockStore.blocks s)) (sym c.shrink.ensures.store) (c.shrink.ensures.sound [] c.requires.sound))
    (subst (Served g.B.BlockStore.step c.args.keyspace.now.store) (sym c.shrink.ensures.store) no_step) c.shrink.ensures.settings
    (subst (λ s. Within (no_key c.args.db) c.args.keyspace.now.bases c.shrink.new.self.bases (g.B.BlockStore.blocks c.args.keyspace.now.store) (g.B.BlockStore.blocks s))
    (sym c.shrink.ensures.store) c.shrink.ensures.within)
