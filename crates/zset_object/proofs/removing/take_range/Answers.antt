use Rattle.std.proofs.Common.{subst}
use Rattle.score_table.specs.Scored.{IsChanged}
use Rattle.score_table.proofs.Edits.{changed_then}
use Rattle.zset_object.proofs.removing.take_range.Goals as goal

pub returns-clause-removed : goal.returns-clause-removed
returns-clause-removed g c =
    let m = g.B.BlockStore.blocks c.args.store.now in
    let n = g.B.BlockStore.blocks c.take_range.new.store in
    let p = c.take_range.ensures.leaves.changed in
    subst (IsChanged m n c.args.table.now c.shrink.new.self) p.scores_are
    (changed_then m n n c.args.table.now c.take_range.new.self c.shrink.new.self _ _ p (c.shrink.ensures.changed n p.sound))

pub returns-in_err-shrink-clause-removed : goal.returns-in_err-shrink-clause-removed
returns-in_err-shrink-clause-removed g c =
    let m = g.B.BlockStore.blocks c.args.store.now in
    let n = g.B.BlockStore.blocks c.take_range.new.store in
    let p = c.take_range.ensures.leaves.changed in
    subst (IsChanged m n c.args.table.now c.shrink.new.self) p.scores_are
    (changed_then m n n c.args.table.now c.take_range.new.self c.shrink.new.self _ _ p (c.shrink.ensures.changed n p.sound))

pub returns-clause-settled : goal.returns-clause-settled
returns-clause-settled g c = c.in_ok-shrink.ensures.settled (g.B.BlockStore.blocks c.take_range.new.store)
