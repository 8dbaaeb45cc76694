use Rattle.std.proofs.Common.{◌≡◌, take, length}
use Rattle.std.specs.Prelude.{MatchOption}
use Rattle.blocks.specs.Blocks.{Served}
use Rattle.pack_pairs.specs.Pairs.{IsPairAt, pairs, map_of_pairs}
use Rattle.hash_object.specs.Hashed.{IsHashed, no_fields}
use Rattle.hash_object.proofs.hashed.hash_pack.Given as goal

abbrev pub invariant-loop : goal.invariant-loop
invariant-loop g l = record {
  place : MatchOption l.next (l.counter ≡ length (pairs l.bytes)) (λ at. IsPairAt l.bytes l.counter at);
  hashed : IsHashed (g.B.BlockStore.blocks l.initial.store) (g.B.BlockStore.blocks l.store) (no_fields l.fn.seed) l.table (map_of_pairs (take l.counter (pairs l.bytes)));
  served : Served g.B.BlockStore.step l.initial.store l.store;
}
