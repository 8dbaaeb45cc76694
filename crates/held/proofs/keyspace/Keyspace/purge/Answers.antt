use Rattle.std.proofs.Common.{◌≡◌, ℕ, ◌+◌, cond, refl, ap, arith}
use Rattle.blocks.specs.Blocks.{no_step}
use Rattle.blocks.proofs.Serve.{served_then}
use Rattle.held.specs.Scopes.{no_key}
use Rattle.held.proofs.Within.{within_none, within_then}
use Rattle.held.proofs.Purging.{purge_begins, purge_next, purge_ends}
use Rattle.held.proofs.Calls.{settings_then}
use Rattle.held.proofs.keyspace.Keyspace.purge.Goals as goal
use Rattle.held.proofs.keyspace.Keyspace.purge.Goals.{then-drop_passed, else-drop_passed}

pub loop-at-init : goal.loop-at-init
loop-at-init g c = record {
  purged = purge_begins g.V.Stored.refs_of g.V.Stored.value_of g.met.V.Stored.reads_own c.args.self.now.bases (g.B.BlockStore.blocks c.args.self.now.store) c.args.db c.args.moment c.requires.intact;
  served = no_step;
  within = within_none g.V.Stored.refs_of (no_key c.args.db) c.args.self.now.bases (g.B.BlockStore.blocks c.args.self.now.store);
  settings = record { limits = refl; seed = refl; turn = refl };
}

pub loop-at-preserved : goal.loop-at-preserved
loop-at-preserved g c =
    let counted : c.if-drop_passed.count ≡ c.loop-at.count + cond c.drop_passed.result 1 0 = elim c.if-drop_passed.branch [
      | then-drop_passed w ↦ (let one = ap {B = ℕ} (λ b. cond b 1 0) w.if-drop_passed.true in omega (arith, w.count-is, one))
      | else-drop_passed w ↦ (let none = ap {B = ℕ} (λ b. cond b 1 0) w.if-drop_passed.false in omega (arith, w.count-is, none))
    ] in
    record {
      purged = purge_next g.V.Stored.refs_of g.V.Stored.value_of g.met.V.Stored.reads_own c.args.self.now.bases c.loop-at.self.bases c.drop_passed.new.self.bases
          (g.B.BlockStore.blocks c.args.self.now.store) (g.B.BlockStore.blocks c.loop-at.self.store) (g.B.BlockStore.blocks c.drop_passed.new.self.store) c.args.db c.args.moment
          c.loop-at.at c.loop-at.count c.drop_passed.result c.if-drop_passed.count counted
          c.loop-at.invariant.purged c.drop_passed.ensures.thins c.drop_passed.ensures.in_time c.drop_passed.ensures.arranged c.drop_passed.ensures.changes;
      served = served_then _ _ _ c.loop-at.invariant.served c.drop_passed.ensures.served;
      within = within_then g.V.Stored.refs_of (no_key c.args.db) c.args.self.now.bases c.loop-at.self.bases c.drop_passed.new.self.bases (g.B.BlockStore.blocks c.args.self.now.store)
          (g.B.BlockStore.blocks c.loop-at.self.store) (g.B.BlockStore.blocks c.drop_passed.new.self.store) c.loop-at.invariant.within c.drop_passed.ensures.within;
      settings = settings_then g.V.Stored.refs_of g.V.Stored.value_of g.met.V.Stored.reads_own _ _ _ c.loop-at.invariant.settings c.drop_passed.ensures.settings;
    }

pub returns-clause-means : goal.returns-clause-means
returns-clause-means g c =
    purge_ends g.V.Stored.refs_of g.V.Stored.value_of g.met.V.Stored.reads_own c.args.self.now.bases c.loop-at.self.bases (g.B.BlockStore.blocks c.args.self.now.store)
    (g.B.BlockStore.blocks c.loop-at.self.store) c.args.db c.args.moment c.loop-at.at c.loop-at.count c.loop-at.invariant.purged
    (λ i some. (let below = c.deadlines_top-at-end.ensures i some in omega (arith, below, c.loop-at-test.false)))
