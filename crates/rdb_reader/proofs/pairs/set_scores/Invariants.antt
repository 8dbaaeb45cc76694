use Rattle.std.proofs.Common.{◌≡◌, ◌*◌, ◌/◌, length, List, Ok}
use Rattle.std.specs.Prelude.{MatchOption}
use Rattle.blocks.specs.Blocks.{Changes, Served}
use Rattle.listpack.specs.Pack.{IsAt, texts}
use Rattle.object_codec.specs.Forms.{IsLeast}
use Rattle.plain_world.specs.Worlds.{SortedOf}
use Rattle.zset_object.specs.Scored.{scores, refs, form_of, IsScored, KeepsSettings}
use Rattle.zset_object.specs.Orders.{FitsScored}
use Rattle.rdb_grammar.specs.Payloads.{Scored, scored, with_scored}
use Rattle.rdb_reader.proofs.Paired.{PairsOf}
use Rattle.rdb_reader.proofs.Unpacked.{PutSoFar}
use Rattle.rdb_reader.proofs.pairs.set_scores.Given as goal

abbrev pub invariant-loop : goal.invariant-loop
invariant-loop g l =
    let blocks = g.B.BlockStore.blocks in
    let first = SortedOf (scores (blocks l.fn.store) l.fn.scored) in
    let made = SortedOf (scores (blocks l.store) l.scored) in
    let list = texts l.pack.bytes.now in
    record {
      place : MatchOption l.next (2 * l.counter ≡ length list) (λ at. IsAt l.pack.bytes.now (2 * l.counter) at);
      turns : (p : PairsOf list (length list / 2)) × (ss : List Scored) × (scored p.pairs ≡ Ok ss) × PutSoFar with_scored first ss l.counter made;
      sound : IsScored (blocks l.store) l.scored;
      settings : KeepsSettings l.fn.scored l.scored;
      form : IsLeast (FitsScored l.fn.scored.limits (scores (blocks l.fn.store) l.fn.scored)) (form_of l.fn.scored)
          → IsLeast (FitsScored l.fn.scored.limits (scores (blocks l.store) l.scored)) (form_of l.scored);
      changes : Changes (blocks l.fn.store) (blocks l.store) (refs l.fn.scored) (refs l.scored);
      served : Served g.B.BlockStore.step l.fn.store l.store;
    }
