use Rattle.zset_object.proofs.Bodies.{empty_len, pack_len}
use Rattle.zset_object.proofs.scored.Scored.len.Goals as goal

pub returns-in-Empty : goal.returns-in-Empty
returns-in-Empty c = λ m s. empty_len m c.args.self.now.body c.in-Empty.is

pub returns-in-Pack : goal.returns-in-Pack
returns-in-Pack c = λ m s. pack_len m c.args.self.now.limits c.args.self.now.seed c.args.self.now.body c.in-Pack.packed c.in-Pack.is s.body
