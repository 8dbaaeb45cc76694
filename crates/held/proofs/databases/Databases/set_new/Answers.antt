use Rattle.std.proofs.Common.{sym, subst}
use Rattle.held.specs.Table.{Lacks}
use Rattle.held.specs.Databases.{table_at, deadlines_at}
use Rattle.held.proofs.Tables.{some_bytes}
use Rattle.held.proofs.Timing.{untimed}
use Rattle.held.specs.Calls.{Begins}
use Rattle.held.proofs.Joining.{begins_none, begins_set}
use Rattle.held.proofs.databases.Databases.set_new.Goals as goal

pub returns-in-None-clause-begins : goal.returns-in-None-clause-begins
returns-in-None-clause-begins g c =
    subst (Begins c.args.self.now c.args.self.now (g.B.BlockStore.blocks c.args.store.now) c.args.db c.args.name c.args.key.now) (sym c.in-None.is)
    (begins_none (g.B.BlockStore.blocks c.args.store.now) c.args.db c.args.name c.args.key.now c.requires.named c.args.self.now c.requires.timed c.requires.lacks)

pub returns-in-Some-clause-begins : goal.returns-in-Some-clause-begins
returns-in-Some-clause-begins g c =
    begins_set (g.B.BlockStore.blocks c.args.store.now) c.args.db c.args.name c.args.key.now c.requires.named c.args.self.now c.requires.timed c.requires.lacks c.set_deadline.new.self
    c.in-Some.deadline c.args.deadline c.in-Some.is c.requires.latest c.set_deadline.result
    c.set_deadline.ensures.changes c.set_deadline.ensures.set c.set_deadline.ensures.moments c.set_deadline.ensures.keyed c.set_deadline.ensures.grown c.set_deadline.ensures.cursor

pub set_deadline-requires-clause-lacks : goal.set_deadline-requires-clause-lacks
set_deadline-requires-clause-lacks g c =
    let m = g.B.BlockStore.blocks c.args.store.now in
    subst (Lacks m (deadlines_at c.args.self.now c.args.db).table) (sym (some_bytes m c.args.name c.args.key.now c.requires.named))
    (untimed m (table_at c.args.self.now c.args.db) (deadlines_at c.args.self.now c.args.db) c.args.key.now c.requires.timed c.requires.lacks)
