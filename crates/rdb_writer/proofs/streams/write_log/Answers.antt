use Rattle.stream_object.specs.Streams.{nodes, stream_of}
use Rattle.rdb_stream_writer.specs.Streams.{stream_word}
use Rattle.rdb_writer.proofs.Logs.{stream_written}
use Rattle.rdb_writer.proofs.streams.write_log.Goals as goal

pub returns : goal.returns
returns g c =
    let m = g.B.BlockStore.blocks c.args.store.now in
    let stream = stream_of m c.args.stream.now in
    stream_written _ _ _ c.args.pen.now c.write_name.new.pen _ c.args.name.now stream (stream_word c.args.moment (nodes m c.args.stream.now) stream) c.write_stream.result
    c.requires.short c.in_ok-write_name.ensures c.write_stream.ensures.writes c.write_stream.ensures.spells
