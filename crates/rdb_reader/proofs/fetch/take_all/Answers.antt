use Rattle.std.proofs.Common.{◌+◌, arith, [], length-take}
use Rattle.rdb_reader.proofs.Fetched.{long_more, taken_on, taken_so_far}
use Rattle.rdb_reader.proofs.fetch.take_all.Goals as goal

pub returns-then-len-limit-clause-fetches : goal.returns-then-len-limit-clause-fetches
returns-then-len-limit-clause-fetches g c = long_more _ _ _ c.pieces.bytes.items c.take_piece.new.bytes.items c.args.limit _ c.pieces.invariant.took c.in-Piece.ensures.takes
    (omega (arith, c.len-in-pieces.ensures, c.if-len-limit.true))

pub returns-in-End-clause-few : goal.returns-in-End-clause-few
returns-in-End-clause-few g c = taken_on _ _ _ c.pieces.bytes.items c.args.limit c.pieces.invariant.took c.pieces.invariant.within [] 0 c.in-End.ensures.takes.0 (omega arith) (omega arith)

pub returns-in-Fault-clause-few : goal.returns-in-Fault-clause-few
returns-in-Fault-clause-few g c = taken_so_far _ _ _ c.pieces.bytes.items c.args.limit c.pieces.invariant.took c.pieces.invariant.within c.in-Fault.ensures.takes

pub returns-in-Memory-clause-few : goal.returns-in-Memory-clause-few
returns-in-Memory-clause-few g c =
    let t = c.in-Memory.ensures.takes in
    taken_on _ _ _ c.pieces.bytes.items c.args.limit c.pieces.invariant.took c.pieces.invariant.within t.piece _ t.took t.few (omega (arith, length-take (c.min-most.result + 1) c.pieces.room))

pub returns-then-len-limit-clause-few : goal.returns-then-len-limit-clause-few
returns-then-len-limit-clause-few g c =
    let t = c.in-Piece.ensures.takes in
    taken_on _ _ _ c.pieces.bytes.items c.args.limit c.pieces.invariant.took c.pieces.invariant.within t.piece _ t.took t.few (omega (arith, length-take (c.min-most.result + 1) c.pieces.room))
