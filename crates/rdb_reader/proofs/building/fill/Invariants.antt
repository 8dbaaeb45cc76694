use Rattle.std.proofs.Common.{ℕ, ◌-◌, ◌≤◌, length}
use Rattle.blocks.specs.Blocks.{Changes, Served}
use Rattle.object_codec.specs.declared.limits.Limits.{Limits}
use Rattle.keyspace.specs.Values.{value_of, value_refs, IsSound}
use Rattle.rdb_grammar.specs.Elements.{with_one}
use Rattle.rdb_grammar.proofs.Turns.{GoesOn}
use Rattle.rdb_reader.specs.Forms.{IsNew}
use Rattle.rdb_reader.proofs.building.fill.Given as goal

abbrev pub invariant-elements : goal.invariant-elements
invariant-elements g l =
    let blocks = g.B.BlockStore.blocks in
    let m = blocks l.fn.store in
    record {
      sound : (limits : Limits) (seed : ℕ) → IsSound limits seed m l.fn.value → IsSound limits seed (blocks l.store) l.value;
      form : (limits : Limits) (seed : ℕ) → IsSound limits seed m l.fn.value → IsNew limits m l.fn.value → IsNew limits (blocks l.store) l.value;
      turns : GoesOn with_one l.bytes l.at l.count (value_of m l.fn.value) l.next (l.count - l.counter) (value_of (blocks l.store) l.value);
      inside : l.next ≤ length l.bytes;
      changes : Changes m (blocks l.store) (value_refs m l.fn.value) (value_refs (blocks l.store) l.value);
      served : Served g.B.BlockStore.step l.fn.store l.store;
    }
