use Rattle.std.proofs.Common.{[], arith, sym, subst, suc, add-one}
use Rattle.blocks.specs.Blocks.{no_step, Changes, Served}
use Rattle.rehash_dict.specs.MapOf.{key_refs}
use Rattle.collection_walk.proofs.Ending.{no_item, refs_from, end_begins, end_skips, end_all, key_live, key_goes_on}
use Rattle.collection_walk.proofs.items.end_table.Goals.{then-is_entry, else-is_entry}
use Rattle.blocks.proofs.Serve.{served_next}
use Rattle.collection_walk.proofs.items.end_table.Goals as goal

pub loop-at-init : goal.loop-at-init
loop-at-init g c = record { changes = end_begins (λ _. []) c.args.table (g.B.BlockStore.blocks c.args.store.now) c.requires; served = no_step }

pub give_back-requires : goal.give_back-requires
give_back-requires g c =
    let m = g.B.BlockStore.blocks c.args.store.now in
    key_live c.args.table c.loop-at.at m (g.B.BlockStore.blocks c.loop-at.store) c.loop-at.invariant.changes c.entry.result.0 c.entry.result.1.now c.entry.ensures

pub loop-at-preserved : goal.loop-at-preserved
loop-at-preserved g c =
    let m = g.B.BlockStore.blocks c.args.store.now in
    let mid = g.B.BlockStore.blocks c.loop-at.store in
    elim c.if-is_entry.branch [
      | then-is_entry w ↦ record {
        changes = rw add-one (subst (λ (s : _). Changes m (g.B.BlockStore.blocks s) (key_refs c.args.table) (refs_from (λ _. []) c.args.table (suc c.loop-at.at))) (sym w.store-is)
            (key_goes_on c.args.table c.loop-at.at m mid c.loop-at.invariant.changes w.entry.result.0 w.entry.result.1.now w.entry.ensures (g.B.BlockStore.blocks w.give_back.new.self)
            w.give_back.ensures.ended));
        served = subst (Served g.B.BlockStore.step c.args.store.now) (sym w.store-is) (served_next _ _ _ c.loop-at.invariant.served w.give_back.ensures.step);
      }
      | else-is_entry w ↦ record {
        changes = rw add-one (subst (λ (s : _). Changes m (g.B.BlockStore.blocks s) (key_refs c.args.table) (refs_from (λ _. []) c.args.table (suc c.loop-at.at))) (sym w.store-is)
            (end_skips (λ _. []) c.args.table c.loop-at.at m mid c.loop-at.invariant.changes (no_item c.args.table c.loop-at.at c.is_entry.result w.if-is_entry.false c.is_entry.ensures)));
        served = subst (Served g.B.BlockStore.step c.args.store.now) (sym w.store-is) c.loop-at.invariant.served;
      }
    ]

pub returns-clause-changes : goal.returns-clause-changes
returns-clause-changes g c =
    end_all (λ _. []) c.args.table c.loop-at.at (g.B.BlockStore.blocks c.args.store.now) (g.B.BlockStore.blocks c.loop-at.store) c.loop-at.invariant.changes
    (λ i some. let below = c.top-at-end.ensures.above i some in omega (arith, below, c.loop-at-test.false))

pub returns-clause-served : goal.returns-clause-served
returns-clause-served g c = c.loop-at.invariant.served
