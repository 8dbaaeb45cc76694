use Rattle.std.proofs.Common.{arith}
use Rattle.zset_object.proofs.Bodies.{empty_len, pack_len}
use Rattle.zset_object.proofs.scored.Scored.at_rank.Goals as goal

pub returns-in-Empty : goal.returns-in-Empty
returns-in-Empty g c = omega (arith, empty_len (g.B.BlockStore.blocks c.args.store.now) c.args.self.now.body c.in-Empty.is)

pub returns-then-rank-packed : goal.returns-then-rank-packed
returns-then-rank-packed g c =
    let self = c.args.self.now in
    omega (arith, pack_len (g.B.BlockStore.blocks c.args.store.now) self.limits self.seed self.body c.in-Pack.packed c.in-Pack.is c.requires.body, c.if-rank-packed.true)
