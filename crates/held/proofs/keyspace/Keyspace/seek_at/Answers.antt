use Rattle.std.proofs.Common.{rules, sym, ◌∙◌}
use Rattle.held.proofs.SoughtKeys.{sees_none, sees_gone, sees_there}
use Rattle.held.proofs.keyspace.Keyspace.seek_at.Goals as goal

pub returns-in-None : goal.returns-in-None
returns-in-None g c =
    sees_none g.V.Stored.refs_of g.V.Stored.value_of g.met.V.Stored.reads_own c.args.self.now.bases c.args.db c.args.moment (g.B.BlockStore.blocks c.args.self.now.store)
    c.requires.arranged c.args.key.now c.seek-sought.result c.seek-sought.ensures c.in-None.is

pub returns-then-not-is_in_time : goal.returns-then-not-is_in_time
returns-then-not-is_in_time g c =
    sees_gone g.V.Stored.refs_of g.V.Stored.value_of g.met.V.Stored.reads_own c.args.self.now.bases c.args.db c.args.moment (g.B.BlockStore.blocks c.args.self.now.store)
    c.requires.arranged c.args.key.now c.seek-sought.result c.seek-sought.ensures c.in-Some.at c.in-Some.is _ _
    c.timed_hashed-timed.ensures.stands c.timed_hashed-timed.ensures.lacks c.timed_hashed-timed.ensures.value c.timed_hashed-timed.ensures.found (sym c.is_in_time.ensures ∙ (search rules))

pub returns-else-not-is_in_time : goal.returns-else-not-is_in_time
returns-else-not-is_in_time g c =
    sees_there g.V.Stored.refs_of g.V.Stored.value_of g.met.V.Stored.reads_own c.args.self.now.bases c.args.db c.args.moment (g.B.BlockStore.blocks c.args.self.now.store)
    c.requires.arranged c.args.key.now c.seek-sought.result c.seek-sought.ensures c.in-Some.at c.in-Some.is _ _
    c.timed_hashed-timed.ensures.stands c.timed_hashed-timed.ensures.lacks c.timed_hashed-timed.ensures.value c.timed_hashed-timed.ensures.found (sym c.is_in_time.ensures ∙ (search rules))
