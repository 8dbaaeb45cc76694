use Rattle.std.proofs.Common.{arith}
use Rattle.std.proofs.lemmas.Grind.{common_steps}
use Rattle.rdb_parts.proofs.Shelved.{all_nothing, piece_more, piece_lost, loses_then}
use Rattle.rdb_parts.proofs.writing.put_all.Goals as goal

pub pieces-init : goal.pieces-init
pieces-init g c = record { bytes = all_nothing _; within = omega arith }

pub pieces-preserved : goal.pieces-preserved
pieces-preserved g c = record {
  bytes = piece_more _ _ _ c.args.piece.now c.pieces.at c.in-Ok.n c.pieces.invariant.within (grind (arith, common_steps)) c.pieces.invariant.bytes c.in-Ok.ensures.puts;
  within = grind (arith, common_steps);
}

pub returns-in-Err : goal.returns-in-Err
returns-in-Err g c = loses_then _ _ _ _ c.pieces.invariant.bytes (piece_lost _ _ _ _ c.in-Err.ensures.puts)
