use Rattle.std.proofs.Common.{sym, subst, add-one, arith, suc}
use Rattle.blocks.specs.Blocks.{no_step, Served}
use Rattle.blocks.proofs.Serve.{served_then}
use Rattle.collection_walk.proofs.Ending.{no_item}
use Rattle.score_table.proofs.Copies.{IsPart, part_new, source_sound, next_absent, part_skips, part_next, part_whole}
use Rattle.score_table.proofs.table.ScoreTable.copy.Goals.{then-is_entry+in_default, else-is_entry}
use Rattle.score_table.proofs.table.ScoreTable.copy.Goals as goal

pub loop-item-init : goal.loop-item-init
loop-item-init g c =
    let m = g.B.BlockStore.blocks c.args.store.now in
    let e = c.new-copy.ensures in
    record {
      part = part_new m c.args.seed c.args.self.now c.new-copy.result (e.sound m) (e.empty m) e.refs (e.tables m) e.seed;
      served = no_step;
    }

pub copy_item-requires-clause-source : goal.copy_item-requires-clause-source
copy_item-requires-clause-source g c =
    source_sound (g.B.BlockStore.blocks c.args.store.now) (g.B.BlockStore.blocks c.loop-item.store) c.args.seed c.args.self.now c.loop-item.copy c.loop-item.item c.requires c.loop-item.invariant.part

pub copy_item-requires-clause-absent : goal.copy_item-requires-clause-absent
copy_item-requires-clause-absent g c =
    next_absent (g.B.BlockStore.blocks c.args.store.now) (g.B.BlockStore.blocks c.loop-item.store) c.args.seed c.args.self.now c.loop-item.copy c.loop-item.item c.requires c.loop-item.invariant.part

pub returns-in-Err-clause-served : goal.returns-in-Err-clause-served
returns-in-Err-clause-served g c = served_then _ _ _ (served_then _ _ _ c.loop-item.invariant.served c.in-Err.ensures.served) c.release.ensures.served

pub loop-item-preserved : goal.loop-item-preserved
loop-item-preserved g c =
    let m = g.B.BlockStore.blocks c.args.store.now in
    let mid = g.B.BlockStore.blocks c.loop-item.store in
    let s = c.args.self.now in
    let u = c.loop-item.copy in
    let at = c.loop-item.item in
    let inv = c.loop-item.invariant in
    elim c.if-is_entry.branch [
      | then-is_entry+in_default w ↦
          (let n = g.B.BlockStore.blocks w.copy_item.new.store in
          let next : IsPart m n c.args.seed s w.copy_item.new.copy (suc at) = part_next m mid c.args.seed s u at c.requires inv.part n w.copy_item.new.copy w.in_default.ensures.added in
          rw add-one
          record {
            part = subst (λ b. IsPart m (g.B.BlockStore.blocks b) c.args.seed s c.if-is_entry.copy (suc at)) (sym w.store-is) (subst (λ v. IsPart m n c.args.seed s v (suc at)) (sym w.copy-is) next);
            served = subst (Served g.B.BlockStore.step c.args.store.now) (sym w.store-is) (served_then _ _ _ inv.served w.copy_item.ensures.served);
          })
      | else-is_entry w ↦
          (let next = part_skips m mid c.args.seed s u at c.requires inv.part (no_item s.table at c.is_entry.result w.if-is_entry.false c.is_entry.ensures) in
          rw add-one
          record {
            part = subst (λ b. IsPart m (g.B.BlockStore.blocks b) c.args.seed s c.if-is_entry.copy (suc at)) (sym w.store-is) (subst (λ v. IsPart m mid c.args.seed s v (suc at)) (sym w.copy-is) next);
            served = subst (Served g.B.BlockStore.step c.args.store.now) (sym w.store-is) inv.served;
          })
    ]

pub returns-clause-copied : goal.returns-clause-copied
returns-clause-copied g c =
    part_whole (g.B.BlockStore.blocks c.args.store.now) (g.B.BlockStore.blocks c.loop-item.store) c.args.seed c.args.self.now c.loop-item.copy c.loop-item.item c.requires c.loop-item.invariant.part
    (λ i some. let below = c.top-item-end.ensures.above i some in omega (arith, below, c.loop-item-test.false))
