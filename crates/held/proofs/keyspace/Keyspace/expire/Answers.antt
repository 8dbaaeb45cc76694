use Rattle.std.proofs.Common.{◌+◌, refl, sym, subst, arith}
use Rattle.blocks.specs.Blocks.{no_step}
use Rattle.blocks.proofs.Serve.{served_then}
use Rattle.held.specs.Expiry.{Expired, start, more}
use Rattle.held.proofs.Turns.{outlives_none, outlives_next, lives_later}
use Rattle.held.proofs.keyspace.Keyspace.expire.Goals as goal

pub loop-init : goal.loop-init
loop-init g c = record {
  steps = start;
  outlives = outlives_none g.V.Stored.refs_of g.V.Stored.value_of g.met.V.Stored.reads_own c.args.self.now.bases (g.B.BlockStore.blocks c.args.self.now.store) c.args.moment c.requires.intact;
  served = no_step;
  few = omega arith;
  none = λ first. refl;
}

pub loop-preserved : goal.loop-preserved
loop-preserved g c = record {
  steps = subst
      (λ n. Expired g.V.Stored.refs_of c.args.moment c.args.self.now.bases (g.B.BlockStore.blocks c.args.self.now.store) (c.loop.counter + 1) (c.loop.dropped + n)
      c.expire_one-dropped.new.self.bases (g.B.BlockStore.blocks c.expire_one-dropped.new.self.store)) (sym c.expire_one-dropped.ensures.answer)
      (more c.loop.counter c.loop.dropped c.loop.self.bases c.expire_one-dropped.new.self.bases (g.B.BlockStore.blocks c.loop.self.store)
      (g.B.BlockStore.blocks c.expire_one-dropped.new.self.store) c.loop.invariant.steps c.expire_one-dropped.ensures.step);
  outlives = outlives_next g.V.Stored.refs_of g.V.Stored.value_of g.met.V.Stored.reads_own c.args.self.now.bases c.loop.self.bases c.expire_one-dropped.new.self.bases
      (g.B.BlockStore.blocks c.args.self.now.store) (g.B.BlockStore.blocks c.loop.self.store) (g.B.BlockStore.blocks c.expire_one-dropped.new.self.store) c.args.moment
      c.loop.invariant.outlives c.expire_one-dropped.ensures.step c.expire_one-dropped.ensures.lives c.expire_one-dropped.ensures.arranged c.expire_one-dropped.ensures.changes;
  served = served_then _ _ _ c.loop.invariant.served c.expire_one-dropped.ensures.served;
  none = λ first. absurd (omega (arith, first));
  few = (let before = c.loop.invariant.few in let one = c.expire_one-dropped.ensures.few in omega (arith, before, one));
}

pub returns-clause-lives : goal.returns-clause-lives
returns-clause-lives g c number later before =
    lives_later g.V.Stored.refs_of g.V.Stored.value_of g.met.V.Stored.reads_own c.args.self.now.bases c.loop.self.bases (g.B.BlockStore.blocks c.args.self.now.store)
    (g.B.BlockStore.blocks c.loop.self.store) c.args.moment later number (c.loop.invariant.outlives.lives number) before
