use Rattle.std.proofs.Common.{sym, subst, arith}
use Rattle.score_table.specs.Scored.{LeavesRange, table_of}
use Rattle.score_table.proofs.Ranked.{counted}
use Rattle.score_table.proofs.table.ScoreTable.take_range.Goals as goal

pub forget_range-requires-clause-sound : goal.forget_range-requires-clause-sound
forget_range-requires-clause-sound g c = c.requires.sound

pub forget_range-requires-clause-inside : goal.forget_range-requires-clause-inside
forget_range-requires-clause-inside g c = omega (arith, c.requires.inside, counted (g.B.BlockStore.blocks c.args.store.now) c.args.self.now c.requires.sound)

pub remove_range-requires-clause-inside : goal.remove_range-requires-clause-inside
remove_range-requires-clause-inside g c = omega (arith, c.requires.inside, counted (g.B.BlockStore.blocks c.args.store.now) c.args.self.now c.requires.sound)

pub returns-clause-leaves : goal.returns-clause-leaves
returns-clause-leaves g c =
    let blocks = g.B.BlockStore.blocks in
    subst (λ xs. LeavesRange (blocks c.args.store.now) (blocks c.forget_range.new.store) c.args.self.now (table_of c.forget_range.new.table xs) c.args.from c.args.to) (sym c.remove_range.ensures)
    c.forget_range.ensures.leaves
