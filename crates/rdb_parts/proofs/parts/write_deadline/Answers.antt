use Rattle.std.proofs.Common.{[], ◌∷◌, Option}
use Rattle.std.specs.Int.{w64, to_le_bytes}
use Rattle.rdb_parts.specs.Pens.{Adds, Writes}
use Rattle.rdb_parts.specs.Words.{deadline_word}
use Rattle.rdb_parts.proofs.Penned.{adds_nothing, writes_then}
use Rattle.rdb_parts.proofs.parts.write_deadline.Goals as goal

pub returns-in-None : goal.returns-in-None
returns-in-None g c = rw c.in-None.is (adds_nothing _ c.args.pen.now)

pub returns-in-Ok : goal.returns-in-Ok
returns-in-Ok g c =
    let bytes = rw c.to_le_bytes-bytes.ensures at c.write-in-Ok.ensures in
    rw c.in-Some.is (writes_then _ _ _ _ _ _ (252 ∷ []) (to_le_bytes w64 c.in-Some.moment) c.write-in-Ok.result c.in-Ok.ensures bytes)
