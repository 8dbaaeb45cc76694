use Rattle.std.proofs.Common.{sym, subst, suc, arith, add-one}
use Rattle.blocks.specs.Blocks.{Served, no_step}
use Rattle.blocks.proofs.Serve.{served_then}
use Rattle.held.proofs.Releases.{release_begins, release_ends, release_skips, release_owned, release_sound, release_goes_on, no_item, IsReleased}
use Rattle.held.proofs.keyspace.release_all.Goals as goal
use Rattle.held.proofs.keyspace.release_all.Goals.{then-is_entry, else-is_entry}

pub loop-at-init : goal.loop-at-init
loop-at-init g c = record {
  released = release_begins (g.V.Stored.refs_of (g.B.BlockStore.blocks c.args.store.now)) c.args.table (g.B.BlockStore.blocks c.args.store.now) c.requires.owned;
  served = no_step;
}

pub release_both-requires-clause-owned : goal.release_both-requires-clause-owned
release_both-requires-clause-owned g c =
    release_owned g.V.Stored.refs_of g.V.Stored.value_of g.met.V.Stored.reads_own c.args.table c.loop-at.table c.loop-at.at (g.B.BlockStore.blocks c.args.store.now)
    (g.B.BlockStore.blocks c.loop-at.store) c.loop-at.invariant.released c.swap_value-value.new.self c.swap_value-value.result c.zero.result c.swap_value-value.ensures.swaps
    c.entry.result.0 c.entry.result.1.now c.entry.ensures

pub release_both-requires-clause-sound : goal.release_both-requires-clause-sound
release_both-requires-clause-sound g c = (
  c.requires.sound.0,
  c.requires.sound.1,
  release_sound g.V.Stored.refs_of g.V.Stored.value_of g.met.V.Stored.reads_own c.args.table c.loop-at.table c.loop-at.at (g.B.BlockStore.blocks c.args.store.now)
      (g.B.BlockStore.blocks c.loop-at.store) c.loop-at.invariant.released c.swap_value-value.new.self c.swap_value-value.result c.zero.result c.swap_value-value.ensures.swaps
      c.entry.result.0 c.entry.result.1.now c.entry.ensures c.requires.sound.0 c.requires.sound.1 c.requires.sound.2,
)

pub loop-at-preserved : goal.loop-at-preserved
loop-at-preserved g c =
    let first = g.B.BlockStore.blocks c.args.store.now in
    let mid = g.B.BlockStore.blocks c.loop-at.store in
    elim c.if-is_entry.branch [
      | then-is_entry w ↦ record {
        released = rw add-one
            (subst (λ t. IsReleased (g.V.Stored.refs_of (g.B.BlockStore.blocks c.args.store.now)) c.args.table t (suc c.loop-at.at) first (g.B.BlockStore.blocks c.if-is_entry.store))
            (sym w.table-is)
            (subst
            (λ (s : _). IsReleased (g.V.Stored.refs_of (g.B.BlockStore.blocks c.args.store.now)) c.args.table w.swap_value-value.new.self (suc c.loop-at.at) first
            (g.B.BlockStore.blocks s)) (sym w.store-is)
            (release_goes_on g.V.Stored.refs_of g.V.Stored.value_of g.met.V.Stored.reads_own c.args.table c.loop-at.table c.loop-at.at first mid c.loop-at.invariant.released
            w.swap_value-value.new.self w.swap_value-value.result w.zero.result w.swap_value-value.ensures.swaps w.entry.result.0 w.entry.result.1.now w.entry.ensures
            (g.B.BlockStore.blocks w.release_both.new.store) w.release_both.ensures.changes)));
        served = subst (Served g.B.BlockStore.step c.args.store.now) (sym w.store-is) (served_then _ _ _ c.loop-at.invariant.served w.release_both.ensures.served);
      }
      | else-is_entry w ↦ record {
        released = rw add-one
            (subst (λ t. IsReleased (g.V.Stored.refs_of (g.B.BlockStore.blocks c.args.store.now)) c.args.table t (suc c.loop-at.at) first (g.B.BlockStore.blocks c.if-is_entry.store))
            (sym w.table-is)
            (subst (λ (s : _). IsReleased (g.V.Stored.refs_of (g.B.BlockStore.blocks c.args.store.now)) c.args.table c.loop-at.table (suc c.loop-at.at) first (g.B.BlockStore.blocks s))
            (sym w.store-is)
            (release_skips (g.V.Stored.refs_of (g.B.BlockStore.blocks c.args.store.now)) c.args.table c.loop-at.table c.loop-at.at first mid c.loop-at.invariant.released
            (no_item c.loop-at.table c.loop-at.at c.is_entry.result w.if-is_entry.false c.is_entry.ensures))));
        served = subst (Served g.B.BlockStore.step c.args.store.now) (sym w.store-is) c.loop-at.invariant.served;
      }
    ]

pub returns-clause-changes : goal.returns-clause-changes
returns-clause-changes g c =
    release_ends (g.V.Stored.refs_of (g.B.BlockStore.blocks c.args.store.now)) c.args.table c.loop-at.table c.loop-at.at (g.B.BlockStore.blocks c.args.store.now)
    (g.B.BlockStore.blocks c.loop-at.store) c.requires.owned c.loop-at.invariant.released
    (λ i some. (let below = c.top-at-end.ensures.above i some in omega (arith, below, c.loop-at-test.false)))
