use Rattle.std.proofs.Common.{rules}
use Rattle.held.proofs.Joining.{joins_is, keeps_is, keeps_same}
use Rattle.held.proofs.databases.Databases.insert_hashed.Goals as goal

pub returns-in-Ok-clause-joins : goal.returns-in-Ok-clause-joins
returns-in-Ok-clause-joins g c =
    joins_is (g.B.BlockStore.blocks c.args.store.now) c.args.db c.args.name c.args.key.now c.requires.named c.args.self.now c.requires.timed c.requires.lacks c.set_new.new.self
    c.args.deadline c.in_default.ensures.begins
    c.insert.new.self c.in-Ok._at _ c.args.value c.insert.ensures.changes c.in-Ok.ensures.adds c.insert.ensures.keyed c.insert.ensures.grown

pub returns-in-Err-insert-clause-stays : goal.returns-in-Err-insert-clause-stays
returns-in-Err-insert-clause-stays g c =
    keeps_is (g.B.BlockStore.blocks c.args.store.now) c.args.db c.args.name c.args.key.now c.requires.named c.args.self.now c.requires.timed c.requires.lacks c.set_new.new.self
    c.args.deadline c.in_default.ensures.begins
    c.clear_deadline.new.self (search rules) (search rules) (search rules) c.clear_deadline.ensures.keyed (search rules) (search rules)

pub returns-in-Err-clause-stays : goal.returns-in-Err-clause-stays
returns-in-Err-clause-stays g c =
    keeps_same (g.B.BlockStore.blocks c.args.store.now) c.args.db c.args.name c.args.key.now c.requires.named c.args.self.now c.requires.timed c.requires.lacks c.set_new.new.self c.in-Err.ensures.err
