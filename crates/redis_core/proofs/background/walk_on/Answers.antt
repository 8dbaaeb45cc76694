use Rattle.std.proofs.Common.{[], ap, sym}
use Rattle.redis_core.specs.Walking.{left_open}
use Rattle.redis_core.proofs.Working.{opened_sound, walked, walked_means, walked_settings}
use Rattle.redis_core.proofs.background.walk_on.Goals as goal

pub returns-in-More-clause-walks : goal.returns-in-More-clause-walks
returns-in-More-clause-walks g c =
    let o = c.opened-place.ensures in
    let s = c.step.ensures in
    walked g.B.BlockStore.blocks g.B.BlockStore.heap c.args.keyspace.now c.opened-place.new.keyspace c.step.new.keyspace c.args.walk c.opened-place.result c.step.new.self c.step.result
    o.opens o.bases o.blocks c.requires.sound s.relocates s.encodings s.tables s.goes s.done s.swept s.least _ (ap (λ v. left_open v c.step.new.self) (sym c.in-More.is))

pub returns-in-More-clause-means : goal.returns-in-More-clause-means
returns-in-More-clause-means g c =
    let o = c.opened-place.ensures in
    let s = c.step.ensures in
    walked_means g.B.BlockStore.blocks g.B.BlockStore.heap c.args.keyspace.now c.opened-place.new.keyspace c.step.new.keyspace c.args.walk c.opened-place.result c.step.new.self
    c.step.result o.opens o.bases o.blocks s.relocates

pub returns-in-More-clause-settings : goal.returns-in-More-clause-settings
returns-in-More-clause-settings g c =
    let o = c.opened-place.ensures in
    let s = c.step.ensures in
    walked_settings g.B.BlockStore.blocks g.B.BlockStore.heap c.args.keyspace.now c.opened-place.new.keyspace c.step.new.keyspace c.args.walk c.opened-place.result c.step.new.self
    c.step.result o.opens o.bases o.blocks s.relocates

pub returns-in-More-clause-sound : goal.returns-in-More-clause-sound
returns-in-More-clause-sound g c =
    let o = c.opened-place.ensures in
    let s = c.step.ensures in
    s.sound []
    (opened_sound g.B.BlockStore.blocks g.B.BlockStore.heap c.args.keyspace.now c.opened-place.new.keyspace c.step.new.keyspace c.args.walk c.opened-place.result c.step.new.self
    c.step.result o.opens o.bases o.blocks c.requires.sound)

pub returns-in-Done-clause-walks : goal.returns-in-Done-clause-walks
returns-in-Done-clause-walks g c =
    let o = c.opened-place.ensures in
    let s = c.step.ensures in
    walked g.B.BlockStore.blocks g.B.BlockStore.heap c.args.keyspace.now c.opened-place.new.keyspace c.step.new.keyspace c.args.walk c.opened-place.result c.step.new.self c.step.result
    o.opens o.bases o.blocks c.requires.sound s.relocates s.encodings s.tables s.goes s.done s.swept s.least _ (ap (λ v. left_open v c.step.new.self) (sym c.in-Done.is))

pub returns-in-Done-clause-means : goal.returns-in-Done-clause-means
returns-in-Done-clause-means g c =
    let o = c.opened-place.ensures in
    let s = c.step.ensures in
    walked_means g.B.BlockStore.blocks g.B.BlockStore.heap c.args.keyspace.now c.opened-place.new.keyspace c.step.new.keyspace c.args.walk c.opened-place.result c.step.new.self
    c.step.result o.opens o.bases o.blocks s.relocates

pub returns-in-Done-clause-settings : goal.returns-in-Done-clause-settings
returns-in-Done-clause-settings g c =
    let o = c.opened-place.ensures in
    let s = c.step.ensures in
    walked_settings g.B.BlockStore.blocks g.B.BlockStore.heap c.args.keyspace.now c.opened-place.new.keyspace c.step.new.keyspace c.args.walk c.opened-place.result c.step.new.self
    c.step.result o.opens o.bases o.blocks s.relocates

pub returns-in-Done-clause-sound : goal.returns-in-Done-clause-sound
returns-in-Done-clause-sound g c =
    let o = c.opened-place.ensures in
    let s = c.step.ensures in
    s.sound []
    (opened_sound g.B.BlockStore.blocks g.B.BlockStore.heap c.args.keyspace.now c.opened-place.new.keyspace c.step.new.keyspace c.args.walk c.opened-place.result c.step.new.self
    c.step.result o.opens o.bases o.blocks c.requires.sound)
