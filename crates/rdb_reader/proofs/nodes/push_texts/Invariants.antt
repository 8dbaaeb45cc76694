use Rattle.std.proofs.Common.{◌≡◌, length}
use Rattle.std.specs.Prelude.{MatchOption}
use Rattle.blocks.specs.Blocks.{Changes, Served}
use Rattle.listpack.specs.Pack.{IsAt, texts}
use Rattle.object_codec.specs.Forms.{IsLeast, FitsList}
use Rattle.plain_world.specs.Worlds.{ListOf}
use Rattle.quicklist.specs.Chain.{elements, refs, IsQuick}
use Rattle.quicklist.specs.Nodes.{pack_len}
use Rattle.rdb_grammar.specs.Payloads.{with_text}
use Rattle.rdb_reader.proofs.Unpacked.{PutSoFar}
use Rattle.rdb_reader.proofs.nodes.push_texts.Given as goal

abbrev pub invariant-loop : goal.invariant-loop
invariant-loop g l =
    let blocks = g.B.BlockStore.blocks in
    record {
      place : MatchOption l.next (l.counter ≡ length (texts l.pack.bytes.now)) (λ at. IsAt l.pack.bytes.now l.counter at);
      turns : PutSoFar with_text (ListOf (elements (blocks l.fn.store) l.fn.list)) (texts l.pack.bytes.now) l.counter (ListOf (elements (blocks l.store) l.list));
      sound : IsQuick (blocks l.store) l.list;
      form : IsLeast (FitsList (pack_len (elements (blocks l.fn.store) l.fn.list))) l.fn.list.form → IsLeast (FitsList (pack_len (elements (blocks l.store) l.list))) l.list.form;
      changes : Changes (blocks l.fn.store) (blocks l.store) (refs l.fn.list) (refs l.list);
      served : Served g.B.BlockStore.step l.fn.store l.store;
    }
