use Rattle.std.proofs.Common.{◌≡◌, ◌≢◌, ◌*◌, ◌+◌, subst, arith}
use Rattle.std.specs.Prelude.{◌/◌}
use Rattle.hash_object.specs.Relocation.{IsRelocatedTable, IsCalm}
use Rattle.collection_walk.proofs.Ending.{no_item}
use Rattle.hash_object.proofs.Marks.{none_at}
use Rattle.hash_object.proofs.Settling.{settled_same, calm_none}
use Rattle.hash_object.proofs.relocating.settle_mark.Goals as goal

pub returns-then-not-is_entry-clause-settled : goal.returns-then-not-is_entry-clause-settled
returns-then-not-is_entry-clause-settled g c = settled_same (g.B.BlockStore.blocks c.args.store.now) c.args.table.now (λ other. other ≢ c.args.mark) c.requires.keyed c.requires.owned

pub returns-then-not-is_entry-clause-calm : goal.returns-then-not-is_entry-clause-calm
returns-then-not-is_entry-clause-calm g c = calm_none (g.B.BlockStore.heap c.args.store.now) c.args.table.now c.args.mark
    (none_at c.args.table.now.items c.args.mark (no_item c.args.table.now _ _ c.if-not-is_entry.true c.is_entry.ensures))

pub returns-then-mark-eq0-clause-settled : goal.returns-then-mark-eq0-clause-settled
returns-then-mark-eq0-clause-settled g c =
    let same : 2 * (c.args.mark / 2) ≡ c.args.mark = omega (arith, c.if-mark-eq0.true) in
    subst (λ k. IsRelocatedTable (g.B.BlockStore.blocks c.args.store.now) (g.B.BlockStore.blocks c.settle_field.new.store) c.args.table.now c.settle_field.new.table (λ other. other ≢ k))
    same c.settle_field.ensures.settled

pub returns-then-mark-eq0-clause-calm : goal.returns-then-mark-eq0-clause-calm
returns-then-mark-eq0-clause-calm g c =
    let same : 2 * (c.args.mark / 2) ≡ c.args.mark = omega (arith, c.if-mark-eq0.true) in
    subst (λ k. IsCalm (g.B.BlockStore.heap c.settle_field.new.store) c.settle_field.new.table k (k + 1)) same c.settle_field.ensures.calm

pub returns-clause-settled : goal.returns-clause-settled
returns-clause-settled g c =
    let same : 2 * (c.args.mark / 2) + 1 ≡ c.args.mark = omega (arith, c.if-mark-eq0.false) in
    subst (λ k. IsRelocatedTable (g.B.BlockStore.blocks c.args.store.now) (g.B.BlockStore.blocks c.settle_value.new.store) c.args.table.now c.settle_value.new.table (λ other. other ≢ k))
    same c.settle_value.ensures.settled

pub returns-clause-calm : goal.returns-clause-calm
returns-clause-calm g c = λ mark r low high there. c.settle_value.ensures.calm mark r (omega (arith, low, c.if-mark-eq0.false)) (omega (arith, high, c.if-mark-eq0.false)) there
