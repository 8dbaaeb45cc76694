use Rattle.stream_node.specs.Ids.{id_key}
use Rattle.rdb_parts.specs.Words.{string_word}
use Rattle.rdb_parts.proofs.Penned.{writes_then}
use Rattle.rdb_stream_writer.proofs.nodes.write_node.Goals as goal

pub returns : goal.returns
returns g c =
    let first = rw c.key.ensures at c.in_ok-write_string.ensures in
    writes_then _ _ _ c.args.pen.now c.write_string.new.pen c.write_string-2.new.pen (string_word (id_key c.args.key)) (string_word c.args.bytes.now) c.write_string-2.result first c.write_string-2.ensures
