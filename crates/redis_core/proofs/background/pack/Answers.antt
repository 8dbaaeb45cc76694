use Rattle.std.proofs.Common.{refl, ◌∙◌}
use Rattle.keyspace.proofs.Calls.{settings_then}
use Rattle.keyspace.proofs.Running.{same_settings}
use Rattle.redis_core.specs.Walking.{Packs as packs}
use Rattle.redis_core.proofs.background.pack.Goals as goal

pub loop-init : goal.loop-init
loop-init g c = record { packs = packs.start; sound = c.requires.sound; walking = c.requires.walking; means = λ number. refl; settings = same_settings c.args.keyspace.now.bases }

pub loop-preserved : goal.loop-preserved
loop-preserved g c =
    let i = c.loop.invariant in
    let w = c.walk_on.ensures in
    record {
      packs = packs.more _ _ _ _ _ i.packs w.walks;
      sound = w.sound;
      walking = w.walking;
      means = λ number. w.means number ∙ i.means number;
      settings = settings_then c.args.keyspace.now.bases c.loop.keyspace.bases c.walk_on.new.keyspace.bases i.settings w.settings;
    }
