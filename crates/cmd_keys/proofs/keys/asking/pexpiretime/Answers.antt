use Rattle.std.proofs.Common.{Ok, Err, ℕ, refl}
use Rattle.std.specs.Prelude.{pos}
use Rattle.keyspace.specs.Commands.{seen}
use Rattle.cmd_keys.specs.Found.{told_without}
use Rattle.cmd_keys.proofs.KeyLemmas.{time_answered}
use Rattle.cmd_keys.proofs.keys.asking.pexpiretime.Goals as goal

pub returns-in-Ok : goal.returns-in-Ok
returns-in-Ok g c =
    let world = seen c.args.at.now c.args.keyspace.now.bases (g.B.BlockStore.blocks c.args.keyspace.now.store) in
    let tell = λ (deadline : ℕ). deadline in
    time_answered world c.args.key.now tell (Ok c.in-Ok.deadline) (pos c.in-Ok.deadline) c.count_reply.result c.in-Ok.ensures.is refl c.count_reply.ensures

pub returns-in-Err : goal.returns-in-Err
returns-in-Err g c =
    let world = seen c.args.at.now c.args.keyspace.now.bases (g.B.BlockStore.blocks c.args.keyspace.now.store) in
    let tell = λ (deadline : ℕ). deadline in
    time_answered world c.args.key.now tell (Err c.in-Err.timeless) (told_without c.in-Err.timeless) c.timeless_reply.result c.in-Err.ensures.is refl c.timeless_reply.ensures
