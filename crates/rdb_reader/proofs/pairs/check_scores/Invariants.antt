use Rattle.std.proofs.Common.{◌≡◌, ◌*◌, length}
use Rattle.std.specs.Prelude.{MatchOption}
use Rattle.listpack.specs.Pack.{IsAt, texts}
use Rattle.rdb_reader.proofs.Paired.{PairsOf, HaveScores}
use Rattle.rdb_reader.proofs.pairs.check_scores.Given as goal

abbrev pub invariant-loop : goal.invariant-loop
invariant-loop l = record {
  place : MatchOption l.next (2 * l.counter ≡ length (texts l.pack.bytes.now)) (λ at. IsAt l.pack.bytes.now (2 * l.counter) at);
  scores : (p : PairsOf (texts l.pack.bytes.now) l.count) × HaveScores p.pairs l.counter;
}
