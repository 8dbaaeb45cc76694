use Rattle.std.specs.Int.{w64, to_be_bytes}
use Rattle.rdb_parts.proofs.Penned.{writes_then}
use Rattle.rdb_stream_writer.proofs.ids.write_id.Goals as goal

pub returns-clause-writes : goal.returns-clause-writes
returns-clause-writes g c =
    let first = rw c.to_be_bytes.ensures at c.in_ok-write.ensures in
    let second = rw c.to_be_bytes-2.ensures at c.write-2.ensures in
    writes_then _ _ _ _ _ _ (to_be_bytes w64 (c.args.id.0)) (to_be_bytes w64 (c.args.id.1)) c.write-2.result first second
