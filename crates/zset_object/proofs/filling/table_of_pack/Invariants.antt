use Rattle.std.proofs.Common.{◌≡◌, take, length}
use Rattle.std.specs.Prelude.{MatchOption}
use Rattle.blocks.specs.Blocks.{Served}
use Rattle.pack_pairs.specs.Pairs.{IsPairAt, pairs}
use Rattle.zset_object.specs.Orders.{map_of_keys}
use Rattle.zset_object.specs.Packed.{keys_in}
use Rattle.zset_object.specs.Scored.{IsPlacedTable}
use Rattle.zset_object.proofs.filling.table_of_pack.Given as goal

abbrev pub invariant-loop : goal.invariant-loop
invariant-loop g l = record {
  place : MatchOption l.next (l.counter ≡ length (pairs l.bytes)) (λ at. IsPairAt l.bytes l.counter at);
  placed : IsPlacedTable (g.B.BlockStore.blocks l.initial.store) (g.B.BlockStore.blocks l.store) l.fn.seed l.table (map_of_keys (take l.counter (keys_in l.bytes)));
  served : Served g.B.BlockStore.step l.initial.store l.store;
}
