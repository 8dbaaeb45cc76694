use Rattle.std.proofs.Common.{refl, arith, ◌∙◌}
use Rattle.keyspace.proofs.Running.{same_held, held_then}
use Rattle.redis_core.specs.declared.settling.Touched.TheVariants.{All}
use Rattle.redis_core.specs.Touched.{shrinking}
use Rattle.redis_core.proofs.Settled.{held_shrinks, below_settled, all_settled}
use Rattle.redis_core.proofs.settling.shrink_all.Goals as goal

pub loop-db-init : goal.loop-db-init
loop-db-init g c = record {
  world = λ number. refl;
  held = same_held g.B.BlockStore.blocks g.B.BlockStore.step (shrinking All) c.args.keyspace.now c.requires.sound;
  settled = λ number below. absurd (omega (arith, below));
}

pub shrink_one-requires-clause-sound : goal.shrink_one-requires-clause-sound
shrink_one-requires-clause-sound g c = c.loop-db.invariant.held.sound

pub loop-db-preserved : goal.loop-db-preserved
loop-db-preserved g c = record {
  world = λ number. c.shrink_one.ensures.world number ∙ c.loop-db.invariant.world number;
  held = held_then g.B.BlockStore.blocks g.B.BlockStore.step (shrinking All) c.args.keyspace.now c.loop-db.keyspace c.shrink_one.new.keyspace c.loop-db.invariant.held
      (held_shrinks g.B.BlockStore.blocks g.B.BlockStore.step All c.loop-db.db tt c.loop-db.keyspace c.shrink_one.new.keyspace c.shrink_one.ensures.held);
  settled = below_settled g.B.BlockStore.blocks g.B.BlockStore.step c.loop-db.keyspace c.shrink_one.new.keyspace c.loop-db.db c.loop-db.invariant.settled c.shrink_one.ensures.held
      c.in_ok-shrink_one.ensures.settled;
}

pub returns-in_err-shrink_one-clause-world : goal.returns-in_err-shrink_one-clause-world
returns-in_err-shrink_one-clause-world g c number = c.shrink_one.ensures.world number ∙ c.loop-db.invariant.world number

pub returns-in_err-shrink_one-clause-held : goal.returns-in_err-shrink_one-clause-held
returns-in_err-shrink_one-clause-held g c = held_then g.B.BlockStore.blocks g.B.BlockStore.step (shrinking All) c.args.keyspace.now c.loop-db.keyspace c.shrink_one.new.keyspace
    c.loop-db.invariant.held (held_shrinks g.B.BlockStore.blocks g.B.BlockStore.step All c.loop-db.db tt c.loop-db.keyspace c.shrink_one.new.keyspace c.shrink_one.ensures.held)

pub returns-clause-settled : goal.returns-clause-settled
returns-clause-settled g c = all_settled c.loop-db.keyspace.bases c.loop-db.invariant.held.sound.arranged.sixteen (λ number below. c.loop-db.invariant.settled number (omega (arith, below)))
