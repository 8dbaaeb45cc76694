use Rattle.std.proofs.Common.{◌-◌, ◌≤◌, length}
use Rattle.blocks.specs.Blocks.{Changes, Served}
use Rattle.object_codec.specs.Forms.{IsLeast, FitsList}
use Rattle.plain_world.specs.Worlds.{ListOf}
use Rattle.quicklist.specs.Chain.{elements, refs, IsQuick}
use Rattle.quicklist.specs.Nodes.{pack_len}
use Rattle.rdb_grammar.specs.Layouts.{with_node}
use Rattle.rdb_grammar.proofs.Turns.{GoesOn}
use Rattle.rdb_reader.proofs.nodes.read_list.Given as goal

abbrev pub invariant-nodes : goal.invariant-nodes
invariant-nodes g l =
    let blocks = g.B.BlockStore.blocks in
    record {
      turns : GoesOn with_node l.bytes l.at l.count (ListOf (elements (blocks l.fn.store) l.fn.list)) l.next (l.count - l.counter) (ListOf (elements (blocks l.store) l.list));
      inside : l.next ≤ length l.bytes;
      sound : IsQuick (blocks l.store) l.list;
      form : IsLeast (FitsList (pack_len (elements (blocks l.fn.store) l.fn.list))) l.fn.list.form → IsLeast (FitsList (pack_len (elements (blocks l.store) l.list))) l.list.form;
      changes : Changes (blocks l.fn.store) (blocks l.store) (refs l.fn.list) (refs l.list);
      served : Served g.B.BlockStore.step l.fn.store l.store;
    }
