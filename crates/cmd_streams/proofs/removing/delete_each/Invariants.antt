use Rattle.std.proofs.Common.{◌≡◌, drop}
use Rattle.blocks.specs.Blocks.{Changes, Served}
use Rattle.stream_object.specs.Streams.{IsStream, stream_of, refs}
use Rattle.plain_model.specs.StreamSteps.{without_all}
use Rattle.cmd_streams.proofs.removing.delete_each.Given as goal

abbrev pub invariant-loop-id : goal.invariant-loop-id
invariant-loop-id g l =
    let blocks = g.B.BlockStore.blocks in
    record {
      sound : IsStream (blocks l.store) l.stream;
      is : without_all (stream_of (blocks l.store) l.stream) (drop l.id-index l.ids) ≡ without_all (stream_of (blocks l.fn.store) l.fn.stream) l.ids;
      changes : Changes (blocks l.fn.store) (blocks l.store) (refs (blocks l.fn.store) l.fn.stream) (refs (blocks l.store) l.stream);
      served : Served g.B.BlockStore.step l.fn.store l.store;
    }
