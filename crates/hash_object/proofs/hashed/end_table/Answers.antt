use Rattle.std.proofs.Common.{arith, sym, subst, suc, add-one}
use Rattle.blocks.specs.Blocks.{no_step, Changes, Served}
use Rattle.blocks.proofs.Serve.{served_then}
use Rattle.hash_object.specs.Hashed.{blocks_of}
use Rattle.collection_walk.proofs.Ending.{refs_from, end_begins, end_skips, end_owned, end_goes_on, end_all, no_item}
use Rattle.hash_object.proofs.Tables.{value_block}
use Rattle.hash_object.proofs.hashed.end_table.Goals.{then-is_entry, else-is_entry}
use Rattle.hash_object.proofs.hashed.end_table.Goals as goal

pub loop-at-init : goal.loop-at-init
loop-at-init g c = record { changes = end_begins value_block c.args.table (g.B.BlockStore.blocks c.args.store.now) c.requires; served = no_step }

pub end_entry-requires : goal.end_entry-requires
end_entry-requires g c =
    end_owned value_block c.args.table c.loop-at.at (g.B.BlockStore.blocks c.args.store.now) (g.B.BlockStore.blocks c.loop-at.store) c.loop-at.invariant.changes c.entry.result.0
    c.entry.result.1.now c.entry.ensures

pub loop-at-preserved : goal.loop-at-preserved
loop-at-preserved g c =
    let m = g.B.BlockStore.blocks c.args.store.now in
    let mid = g.B.BlockStore.blocks c.loop-at.store in
    elim c.if-is_entry.branch [
      | then-is_entry w ↦ record {
        changes = rw add-one (subst (λ (s : _). Changes m (g.B.BlockStore.blocks s) (blocks_of c.args.table) (refs_from value_block c.args.table (suc c.loop-at.at))) (sym w.store-is)
            (end_goes_on value_block c.args.table c.loop-at.at m mid c.loop-at.invariant.changes w.entry.result.0 w.entry.result.1.now w.entry.ensures
            (g.B.BlockStore.blocks w.end_entry.new.store) w.end_entry.ensures.changes));
        served = subst (Served g.B.BlockStore.step c.args.store.now) (sym w.store-is) (served_then _ _ _ c.loop-at.invariant.served w.end_entry.ensures.served);
      }
      | else-is_entry w ↦ record {
        changes = rw add-one (subst (λ (s : _). Changes m (g.B.BlockStore.blocks s) (blocks_of c.args.table) (refs_from value_block c.args.table (suc c.loop-at.at))) (sym w.store-is)
            (end_skips value_block c.args.table c.loop-at.at m mid c.loop-at.invariant.changes (no_item c.args.table c.loop-at.at c.is_entry.result w.if-is_entry.false c.is_entry.ensures)));
        served = subst (Served g.B.BlockStore.step c.args.store.now) (sym w.store-is) c.loop-at.invariant.served;
      }
    ]

pub returns-clause-changes : goal.returns-clause-changes
returns-clause-changes g c =
    end_all value_block c.args.table c.loop-at.at (g.B.BlockStore.blocks c.args.store.now) (g.B.BlockStore.blocks c.loop-at.store) c.loop-at.invariant.changes
    (λ i some. let below = c.top-at-end.ensures.above i some in omega (arith, below, c.loop-at-test.false))
