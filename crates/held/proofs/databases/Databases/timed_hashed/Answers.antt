use Rattle.held.specs.Databases.{deadlines_at}
use Rattle.held.proofs.Timing.{moments_lack}
use Rattle.held.proofs.databases.Databases.timed_hashed.Goals as goal

pub returns-then-has_no_deadline-clause-value : goal.returns-then-has_no_deadline-clause-value
returns-then-has_no_deadline-clause-value g c =
    moments_lack (g.B.BlockStore.blocks c.args.store.now) (deadlines_at c.args.self.now c.args.db) c.args.key.now c.requires.keyed
    (c.has_no_deadline.ensures c.if-has_no_deadline.true (g.B.BlockStore.blocks c.args.store.now) c.args.key.now c.requires.keyed)
