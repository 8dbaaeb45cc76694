use Rattle.std.proofs.Common.{[], refl, subst, sym}
use Rattle.keyspace.specs.Sound.{Sound}
use Rattle.keyspace.proofs.Uses.{sound_is_intact}
use Rattle.redis_core.proofs.Working.{worked}
use Rattle.redis_core.proofs.background.work.Goals as goal

pub pack-requires-clause-sound : goal.pack-requires-clause-sound
pack-requires-clause-sound g c =
    let r = c.rehash-rehash.ensures in
    subst (λ s. Sound c.rehash-rehash.new.self.bases (g.B.BlockStore.blocks s)) (sym r.store) (r.sound [] (c.expire-expired.ensures.sound [] c.requires.sound))

pub returns-clause-works : goal.returns-clause-works
returns-clause-works g c =
    let e = c.expire-expired.ensures in
    let r = c.rehash-rehash.ensures in
    let p = c.pack.ensures in
    worked g.B.BlockStore.blocks g.B.BlockStore.heap g.B.BlockStore.step c.args.moment c.args.plan c.args.keyspace.now c.expire-expired.new.self c.rehash-rehash.new.self
    c.pack.new.keyspace c.args.walk.now c.pack.new.walk _ e.steps e.none e.lives e.served e.limits e.seed r.steps r.store r.means r.settings p.packs refl p.means p.sound p.settings

pub rehash-rehash-requires : goal.rehash-rehash-requires
rehash-rehash-requires g c = record { intact = sound_is_intact _ _ [] (c.expire-expired.ensures.sound [] c.requires.sound) }
