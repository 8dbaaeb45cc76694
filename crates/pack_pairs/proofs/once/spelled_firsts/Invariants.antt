use Rattle.std.proofs.Common.{◌≡◌, length, take}
use Rattle.std.specs.Prelude.{MatchOption}
use Rattle.pack_pairs.specs.Pairs.{IsPairAt, pairs, first_spellings}
use Rattle.pack_pairs.proofs.Distinct.{bytes_in}
use Rattle.pack_pairs.proofs.once.spelled_firsts.Given as goal

abbrev pub invariant-loop : goal.invariant-loop
invariant-loop l = record {
  place : MatchOption l.next (l.counter ≡ length (pairs l.bytes)) (λ at. IsPairAt l.bytes l.counter at);
  parts : bytes_in l.firsts.items ≡ take l.counter (first_spellings l.bytes);
}
