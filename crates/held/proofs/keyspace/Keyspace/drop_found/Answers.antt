use Rattle.std.proofs.Common.{◌≡◌, length, refl, arith}
use Rattle.blocks.specs.Blocks.{no_step}
use Rattle.blocks.proofs.Serve.{served_then}
use Rattle.held.proofs.Calls.{settings_then}
use Rattle.held.proofs.Turns.{drop_begins, drop_intact, next_named, drop_next, drop_ends}
use Rattle.held.proofs.keyspace.Keyspace.drop_found.Goals as goal

pub loop-index-init : goal.loop-index-init
loop-index-init g c = record {
  dropped = drop_begins g.V.Stored.refs_of g.V.Stored.value_of g.met.V.Stored.reads_own c.args.found.now c.args.self.now.bases (g.B.BlockStore.blocks c.args.self.now.store) c.args.db
      c.args.moment c.requires.intact;
  served = no_step;
  settings = record { limits = refl; seed = refl; turn = refl };
}

pub drop_named-requires-clause-intact : goal.drop_named-requires-clause-intact
drop_named-requires-clause-intact g c =
    drop_intact g.V.Stored.refs_of g.V.Stored.value_of g.met.V.Stored.reads_own c.args.found.now c.args.self.now.bases c.loop-index.self.bases (g.B.BlockStore.blocks c.args.self.now.store)
    (g.B.BlockStore.blocks c.loop-index.self.store) c.args.db c.args.moment c.loop-index.index c.at.result
    c.requires.gone c.requires.once c.at.ensures c.loop-index.invariant.dropped c.requires.intact

pub drop_named-requires-clause-named : goal.drop_named-requires-clause-named
drop_named-requires-clause-named g c =
    next_named g.V.Stored.refs_of g.V.Stored.value_of g.met.V.Stored.reads_own c.args.found.now c.args.self.now.bases c.loop-index.self.bases (g.B.BlockStore.blocks c.args.self.now.store)
    (g.B.BlockStore.blocks c.loop-index.self.store) c.args.db c.args.moment c.loop-index.index c.at.result
    c.requires.gone c.requires.once c.at.ensures c.loop-index.invariant.dropped

pub loop-index-preserved : goal.loop-index-preserved
loop-index-preserved g c = record {
  dropped = drop_next g.V.Stored.refs_of g.V.Stored.value_of g.met.V.Stored.reads_own c.args.found.now c.args.self.now.bases c.loop-index.self.bases
      (g.B.BlockStore.blocks c.args.self.now.store) (g.B.BlockStore.blocks c.loop-index.self.store) c.args.db c.args.moment c.loop-index.index c.at.result
      c.requires.gone c.requires.once c.at.ensures c.loop-index.invariant.dropped c.drop_named.new.self.bases (g.B.BlockStore.blocks c.drop_named.new.self.store)
      c.drop_named.ensures.means c.drop_named.ensures.loses c.drop_named.ensures.thinned c.drop_named.ensures.within c.drop_named.ensures.arranged c.drop_named.ensures.changes;
  served = served_then _ _ _ c.loop-index.invariant.served c.drop_named.ensures.served;
  settings = settings_then g.V.Stored.refs_of g.V.Stored.value_of g.met.V.Stored.reads_own _ _ _ c.loop-index.invariant.settings c.drop_named.ensures.settings;
}

pub returns-clause-thinned : goal.returns-clause-thinned
returns-clause-thinned g c =
    drop_ends g.V.Stored.refs_of g.V.Stored.value_of g.met.V.Stored.reads_own c.args.found.now c.args.self.now.bases c.loop-index.self.bases (g.B.BlockStore.blocks c.args.self.now.store)
    (g.B.BlockStore.blocks c.loop-index.self.store) c.args.db c.args.moment c.loop-index.index
    (let all : c.loop-index.index ≡ length c.args.found.now = omega (arith, c.len-index-end.ensures.value) in all) c.loop-index.invariant.dropped
