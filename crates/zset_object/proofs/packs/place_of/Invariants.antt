use Rattle.std.proofs.Common.{◌≡◌, length, take}
use Rattle.std.specs.Prelude.{MatchOption}
use Rattle.pack_pairs.specs.Pairs.{IsPairAt, pairs}
use Rattle.zset_object.specs.Orders.{place_in}
use Rattle.zset_object.specs.Packed.{keys_in}
use Rattle.zset_object.proofs.packs.place_of.Given as goal

abbrev pub invariant-loop-index : goal.invariant-loop-index
invariant-loop-index l = record {
  place : MatchOption l.next (l.index ≡ length (pairs l.bytes)) (λ at. IsPairAt l.bytes l.index at);
  passed : place_in (l.score, l.member) (take l.index (keys_in l.bytes)) ≡ l.index;
}
