use Rattle.std.proofs.Common.{arith}
use Rattle.session_hub.proofs.Stepped.{piece_step_ends, piece_step_more}
use Rattle.session_hub.proofs.hub.Hub.step.Goals as goal

pub returns-then-count-left : goal.returns-then-count-left
returns-then-count-left c =
    let is = c.min-count.ensures in
    piece_step_ends c.self.inside.sessions c.self.inside.place c.args.self.now c.args.chunk.now c.self.inside.head.items c.in-Piece.session c.in-Piece.left c.min-count.result c.self.view_is
    c.in-Piece.is c.self.invariant c.requires (omega (arith, is)) (omega (arith, is)) is c.clear.new.self.items c.if-count-left.true c.clear.ensures

pub returns-else-count-left : goal.returns-else-count-left
returns-else-count-left c =
    let is = c.min-count.ensures in
    piece_step_more c.self.inside.sessions c.self.inside.place c.args.self.now c.args.chunk.now c.self.inside.head.items c.in-Piece.session c.in-Piece.left c.min-count.result c.self.view_is
    c.in-Piece.is c.self.invariant c.requires (omega (arith, is)) (omega (arith, is)) is c.if-count-left.false
