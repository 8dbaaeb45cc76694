use Rattle.std.proofs.Common.{[], ◌∷◌}
use Rattle.rdb_parts.proofs.Penned.{ends, lost_then}
use Rattle.rdb_parts.proofs.pen.Pen.close.Goals as goal

pub returns-in-Ok : goal.returns-in-Ok
returns-in-Ok g c = ends _ _ _ _ c.args.self.now c.write.new.self c.flush.new.self c.put_sum.result c.in_default.ensures c.in-Ok.ensures.writes c.in-Ok.ensures.none c.put_sum.ensures.fits c.put_sum.ensures.puts

pub returns-in-Err-flush : goal.returns-in-Err-flush
returns-in-Err-flush g c = lost_then _ _ _ c.args.self.now c.write.new.self (255 ∷ []) c.in_default.ensures c.in-Err-flush.ensures.writes
