use Rattle.std.proofs.Common.{◌∙◌, sym, ap}
use Rattle.plain_world.specs.Streams.{Stream}
use Rattle.plain_world.specs.Worlds.{StreamOf}
use Rattle.stream_object.specs.Streams.{stream_of}
use Rattle.keyspace.specs.Values.{value_of}
use Rattle.rdb_reader.proofs.Streamed.{same_stream, stream_fails}
use Rattle.rdb_reader.proofs.streams.read_whole.Goals as goal

pub read_stream-requires-clause-none : goal.read_stream-requires-clause-none
read_stream-requires-clause-none g c =
    let m = g.B.BlockStore.blocks c.args.store.now in
    let is = ap (λ x. StreamOf (stream_of m x)) c.deref_mut.ensures.value ∙ sym (ap (value_of m) c.in-Stream.is) ∙ c.requires.begun in
    ap (λ (s : Stream). s.entries) (same_stream _ _ is)

pub read_stream-requires-clause-no_group : goal.read_stream-requires-clause-no_group
read_stream-requires-clause-no_group g c =
    let m = g.B.BlockStore.blocks c.args.store.now in
    let is = ap (λ x. StreamOf (stream_of m x)) c.deref_mut.ensures.value ∙ sym (ap (value_of m) c.in-Stream.is) ∙ c.requires.begun in
    ap (λ (s : Stream). s.groups) (same_stream _ _ is)

pub returns-in-Err-clause-fills : goal.returns-in-Err-clause-fills
returns-in-Err-clause-fills g c = rw c.not_read.ensures
    (stream_fails c.args.stream_type c.args.bytes.now c.args.at (StreamOf (stream_of (g.B.BlockStore.blocks c.read_stream.new.store) c.read_stream.new.stream)) c.in-Err.fault
    c.in-Err.ensures.reads)
