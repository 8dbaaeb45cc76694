use Rattle.std.proofs.Common.{◌≡◌, length, take}
use Rattle.std.specs.Prelude.{MatchOption}
use Rattle.pack_pairs.specs.Pairs.{IsPairAt, pairs, longest}
use Rattle.pack_pairs.proofs.walks.longest_len.Given as goal

abbrev pub invariant-loop : goal.invariant-loop
invariant-loop l = record {
  place : MatchOption l.next (l.counter ≡ length (pairs l.bytes)) (λ at. IsPairAt l.bytes l.counter at);
  most : l.most ≡ longest (take l.counter (pairs l.bytes));
}
