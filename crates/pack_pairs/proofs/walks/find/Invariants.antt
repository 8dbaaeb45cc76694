use Rattle.std.proofs.Common.{◌≡◌, length, take, None}
use Rattle.std.specs.Prelude.{MatchOption}
use Rattle.pack_pairs.specs.Pairs.{IsPairAt, pairs, second_of}
use Rattle.pack_pairs.proofs.walks.find.Given as goal

abbrev pub invariant-loop-index : goal.invariant-loop-index
invariant-loop-index l = record {
  place : MatchOption l.next (l.index ≡ length (pairs l.bytes)) (λ at. IsPairAt l.bytes l.index at);
  out : second_of l.first (take l.index (pairs l.bytes)) ≡ None;
}
