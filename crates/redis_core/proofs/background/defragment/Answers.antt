use Rattle.std.proofs.Common.{refl, arith, ◌-◌, ◌+◌, ◌∙◌}
use Rattle.keyspace.proofs.Calls.{settings_then}
use Rattle.keyspace.proofs.Running.{same_settings}
use Rattle.redis_core.proofs.Walks.{all_left, no_step_left, step_ends, step_goes_on}
use Rattle.redis_core.proofs.background.defragment.Goals as goal

pub loop-init : goal.loop-init
loop-init g c = record {
  left = λ new after ended d. all_left g.B.BlockStore.blocks g.B.BlockStore.heap c.args.keyspace.now new c.args.walk.now after c.args.steps ended d;
  sound = c.requires.sound;
  walking =
      c.requires.walking;
  means = λ number. refl;
  settings = same_settings c.args.keyspace.now.bases;
}

pub returns-in-None-clause-defrags : goal.returns-in-None-clause-defrags
returns-in-None-clause-defrags g c =
    c.loop.invariant.left _ _ 1
    (step_ends g.B.BlockStore.blocks g.B.BlockStore.heap c.loop.keyspace c.walk_on.new.keyspace c.loop.walk c.walk_on.result (c.args.steps - c.loop.counter) c.walk_on.ensures.walks
    c.in-None.is (omega arith))

pub returns-in-None-clause-means : goal.returns-in-None-clause-means
returns-in-None-clause-means g c number = c.walk_on.ensures.means number ∙ c.loop.invariant.means number

pub returns-in-None-clause-settings : goal.returns-in-None-clause-settings
returns-in-None-clause-settings g c = settings_then c.args.keyspace.now.bases c.loop.keyspace.bases c.walk_on.new.keyspace.bases c.loop.invariant.settings c.walk_on.ensures.settings

pub loop-preserved : goal.loop-preserved
loop-preserved g c =
    let i = c.loop.invariant in
    let w = c.walk_on.ensures in
    record {
      left = λ new after ended d. i.left new after ended
          (step_goes_on g.B.BlockStore.blocks g.B.BlockStore.heap c.loop.keyspace c.walk_on.new.keyspace new c.loop.walk c.walk_on.result after c.in-Some.place
          (c.args.steps - c.loop.counter) (c.args.steps - (c.loop.counter + 1)) ended w.walks c.in-Some.is (omega arith) d);
      sound = w.sound;
      walking = rw c.in-Some.is at w.walking;
      means = λ number. w.means number ∙ i.means number;
      settings = settings_then c.args.keyspace.now.bases c.loop.keyspace.bases c.walk_on.new.keyspace.bases i.settings w.settings;
    }

pub returns-clause-defrags : goal.returns-clause-defrags
returns-clause-defrags g c = c.loop.invariant.left _ _ 0 (no_step_left g.B.BlockStore.blocks g.B.BlockStore.heap c.loop.keyspace c.loop.walk (c.args.steps - c.loop.counter) (omega arith))
