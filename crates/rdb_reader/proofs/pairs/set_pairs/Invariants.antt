use Rattle.std.proofs.Common.{◌≡◌, ◌*◌, ◌/◌, length}
use Rattle.std.specs.Prelude.{MatchOption}
use Rattle.blocks.specs.Blocks.{Changes, Served}
use Rattle.listpack.specs.Pack.{IsAt, texts}
use Rattle.object_codec.specs.Forms.{IsLeast}
use Rattle.plain_world.specs.Worlds.{HashOf}
use Rattle.hash_object.specs.Fields.{fields, refs, form_of, IsFields, KeepsSettings}
use Rattle.hash_object.specs.Maps.{FitsFields}
use Rattle.rdb_grammar.specs.Payloads.{with_pair}
use Rattle.rdb_reader.proofs.Paired.{PairsOf}
use Rattle.rdb_reader.proofs.Unpacked.{PutSoFar}
use Rattle.rdb_reader.proofs.pairs.set_pairs.Given as goal

abbrev pub invariant-loop : goal.invariant-loop
invariant-loop g l =
    let blocks = g.B.BlockStore.blocks in
    let first = HashOf (fields (blocks l.fn.store) l.fn.fields) in
    let made = HashOf (fields (blocks l.store) l.fields) in
    let list = texts l.pack.bytes.now in
    record {
      place : MatchOption l.next (2 * l.counter ≡ length list) (λ at. IsAt l.pack.bytes.now (2 * l.counter) at);
      turns : (p : PairsOf list (length list / 2)) × PutSoFar with_pair first p.pairs l.counter made;
      sound : IsFields (blocks l.store) l.fields;
      settings : KeepsSettings l.fn.fields l.fields;
      form : IsLeast (FitsFields l.fn.fields.limits (fields (blocks l.fn.store) l.fn.fields)) (form_of l.fn.fields)
          → IsLeast (FitsFields l.fn.fields.limits (fields (blocks l.store) l.fields)) (form_of l.fields);
      changes : Changes (blocks l.fn.store) (blocks l.store) (refs l.fn.fields) (refs l.fields);
      served : Served g.B.BlockStore.step l.fn.store l.store;
    }
