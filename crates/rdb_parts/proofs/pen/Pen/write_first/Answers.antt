use Rattle.rdb_parts.proofs.Penned.{gathers}
use Rattle.rdb_parts.proofs.pen.Pen.write_first.Goals as goal

pub returns-then-piece-le-ROOM : goal.returns-then-piece-le-ROOM
returns-then-piece-le-ROOM g c = gathers _ c.args.self.now c.gather.new.self c.args.piece.now c.gather.ensures.gathered c.gather.ensures.sum
