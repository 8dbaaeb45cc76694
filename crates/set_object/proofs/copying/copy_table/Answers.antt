use Rattle.std.proofs.Common.{sym, subst, add-one, arith, suc}
use Rattle.blocks.specs.Blocks.{no_step, Served}
use Rattle.blocks.proofs.Serve.{served_then}
use Rattle.rehash_dict.specs.Table.{item}
use Rattle.set_object.specs.Hashed.{IsHashed, no_members}
use Rattle.set_object.specs.Strings.{set_of}
use Rattle.set_object.proofs.Hashing.{new_is, new_hashed, hashed_then}
use Rattle.collection_walk.proofs.Ending.{no_item}
use Rattle.collection_walk.proofs.Lists.{some_of}
use Rattle.set_object.proofs.Copies.{keys_before, source_keyed, next_absent, next_put, vacant_same, all_copied}
use Rattle.set_object.proofs.copying.copy_table.Goals.{then-is_entry+in_default, else-is_entry}
use Rattle.set_object.proofs.copying.copy_table.Goals as goal

pub loop-at-init : goal.loop-at-init
loop-at-init g c =
    let m = g.B.BlockStore.blocks c.args.store.now in
    let h = c.new-table.ensures in
    record {
      hashed = new_hashed m c.new-table.result c.args.seed (new_is c.new-table.result c.args.seed h.empty h.older h.newer h.position h.seed h.top) (h.keyed m) (h.map m);
      served = no_step;
    }

pub copy_member-requires-clause-source : goal.copy_member-requires-clause-source
copy_member-requires-clause-source g c =
    source_keyed (g.B.BlockStore.blocks c.args.store.now) (g.B.BlockStore.blocks c.loop-at.store) c.args.seed c.args.source.now c.loop-at.table c.loop-at.at c.requires c.loop-at.invariant.hashed

pub copy_member-requires-clause-absent : goal.copy_member-requires-clause-absent
copy_member-requires-clause-absent g c =
    let e = some_of (item c.args.source.now c.loop-at.at) (c.is_entry.ensures.0 c.if-is_entry.true) in
    next_absent (g.B.BlockStore.blocks c.args.store.now) (g.B.BlockStore.blocks c.loop-at.store) c.args.seed c.args.source.now c.loop-at.table c.loop-at.at c.requires
    c.loop-at.invariant.hashed e.0 e.1

pub returns-in-Err-clause-served : goal.returns-in-Err-clause-served
returns-in-Err-clause-served g c = served_then _ _ _ (served_then _ _ _ c.loop-at.invariant.served c.in-Err.ensures.served) c.end_table.ensures.served

pub loop-at-preserved : goal.loop-at-preserved
loop-at-preserved g c =
    let m = g.B.BlockStore.blocks c.args.store.now in
    let mid = g.B.BlockStore.blocks c.loop-at.store in
    let t = c.args.source.now in
    let u = c.loop-at.table in
    let at = c.loop-at.at in
    let inv = c.loop-at.invariant in
    elim c.if-is_entry.branch [
      | then-is_entry+in_default w ↦
          (let n = g.B.BlockStore.blocks w.copy_member.new.store in
          let e = some_of (item t at) (c.is_entry.ensures.0 w.if-is_entry.true) in
          let next : IsHashed m n (no_members c.args.seed) w.copy_member.new.table (set_of (keys_before m t (suc at))) =
          subst (λ s. IsHashed m n (no_members c.args.seed) w.copy_member.new.table s) (next_put m mid c.args.seed t u at c.requires inv.hashed e.0 e.1)
          (hashed_then m mid n (no_members c.args.seed) u w.copy_member.new.table _ _ inv.hashed w.in_default.ensures.hashed) in
          rw add-one
          record {
            hashed = subst (λ s. IsHashed m (g.B.BlockStore.blocks s) (no_members c.args.seed) c.if-is_entry.table (set_of (keys_before m t (suc at)))) (sym w.store-is)
                (subst (λ v. IsHashed m n (no_members c.args.seed) v (set_of (keys_before m t (suc at)))) (sym w.table-is) next);
            served = subst (Served g.B.BlockStore.step c.args.store.now) (sym w.store-is) (served_then _ _ _ inv.served w.copy_member.ensures.served);
          })
      | else-is_entry w ↦
          (let same = vacant_same m mid c.args.seed t u at c.requires inv.hashed (no_item t at c.is_entry.result w.if-is_entry.false c.is_entry.ensures) in
          rw add-one
          record {
            hashed = subst (λ s. IsHashed m (g.B.BlockStore.blocks s) (no_members c.args.seed) c.if-is_entry.table (set_of (keys_before m t (suc at)))) (sym w.store-is)
                (subst (λ v. IsHashed m mid (no_members c.args.seed) v (set_of (keys_before m t (suc at)))) (sym w.table-is)
                (subst (λ s. IsHashed m mid (no_members c.args.seed) u s) same inv.hashed));
            served = subst (Served g.B.BlockStore.step c.args.store.now) (sym w.store-is) inv.served;
          })
    ]

pub returns-clause-hashed : goal.returns-clause-hashed
returns-clause-hashed g c =
    let m = g.B.BlockStore.blocks c.args.store.now in
    subst (λ s. IsHashed m (g.B.BlockStore.blocks c.loop-at.store) (no_members c.args.seed) c.loop-at.table s)
    (all_copied m c.args.source.now c.loop-at.at (λ i some. let below = c.top-at-end.ensures.above i some in omega (arith, below, c.loop-at-test.false))) c.loop-at.invariant.hashed
