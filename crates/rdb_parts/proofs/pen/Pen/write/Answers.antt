use Rattle.std.proofs.Common.{[]}
use Rattle.rdb_parts.proofs.Penned.{gathers, writes_then}
use Rattle.rdb_parts.proofs.pen.Pen.write.Goals as goal

pub returns-then-piece-self : goal.returns-then-piece-self
returns-then-piece-self g c = gathers _ c.args.self.now c.gather.new.self c.args.piece.now c.gather.ensures.gathered c.gather.ensures.sum

pub returns-in-Ok : goal.returns-in-Ok
returns-in-Ok g c = writes_then _ _ _ _ _ _ [] c.args.piece.now c.write_first.result c.in-Ok.ensures.writes c.write_first.ensures
