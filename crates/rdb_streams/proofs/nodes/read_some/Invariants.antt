use Rattle.std.proofs.Common.{◌≡◌, ◌-◌, ◌≤◌, length}
use Rattle.blocks.specs.Blocks.{Changes, Served}
use Rattle.stream_object.specs.Streams.{refs, stream_of}
use Rattle.rdb_grammar.specs.StreamParts.{with_node, no_nodes}
use Rattle.rdb_grammar.proofs.Turns.{GoesOn}
use Rattle.rdb_streams.specs.Reading.{so_far}
use Rattle.rdb_streams.specs.Seeing.{Sees}
use Rattle.rdb_streams.proofs.nodes.read_some.Given as goal

abbrev pub invariant-nodes : goal.invariant-nodes
invariant-nodes g l =
    let blocks = g.B.BlockStore.blocks in
    record {
      turns : GoesOn with_node l.bytes l.at l.count no_nodes l.next (l.count - l.counter) (so_far (blocks l.store) l.stream l.seen.before);
      inside : l.next ≤ length l.bytes;
      sees : Sees (blocks l.store) l.stream l.seen;
      groups : (stream_of (blocks l.store) l.stream).groups ≡ (stream_of (blocks l.fn.store) l.fn.stream).groups;
      changes : Changes (blocks l.fn.store) (blocks l.store) (refs (blocks l.fn.store) l.fn.stream) (refs (blocks l.store) l.stream);
      served : Served g.B.BlockStore.step l.fn.store l.store;
    }
