use Rattle.std.proofs.Common.{ℤ}
use Rattle.std.specs.Prelude.{FitsSigned}
use Rattle.std.specs.Int.{w64}
use Rattle.rdb_grammar.specs.Scores.{score}
use Rattle.rdb_grammar.proofs.PartsExact.{score_exact}
use Rattle.rdb_grammar.proofs.PlacedReads.{rest_fits, left_fits, placed_stands, placed_fails, placed_keeps}
use Rattle.rdb_grammar.proofs.elements.next_score.Goals as goal

pub placed-requires-clause-rest : goal.placed-requires-clause-rest
placed-requires-clause-rest c = rest_fits score score_exact (λ (n : ℤ). n) c.args.bytes.now c.args.at c.score_of.result c.requires c.score_of.ensures.score

pub placed-requires-clause-left : goal.placed-requires-clause-left
placed-requires-clause-left c = left_fits score score_exact (λ (n : ℤ). n) c.args.bytes.now c.args.at c.score_of.result c.requires c.score_of.ensures.score

pub returns-clause-score : goal.returns-clause-score
returns-clause-score c =
    placed_stands score score_exact (λ (n : ℤ). n) c.args.bytes.now c.args.at c.score_of.result c.placed.result c.requires c.score_of.ensures.score
    (record { ok = c.placed.ensures.ok; err = c.placed.ensures.err })

pub returns-clause-fits : goal.returns-clause-fits
returns-clause-fits c = placed_keeps (FitsSigned w64) c.args.bytes.now c.score_of.result c.placed.result (record { ok = c.placed.ensures.ok; err = c.placed.ensures.err }) c.score_of.ensures.fits

pub returns-clause-fault : goal.returns-clause-fault
returns-clause-fault c =
    placed_fails score score_exact (λ (n : ℤ). n) c.args.bytes.now c.args.at c.score_of.result c.placed.result c.requires c.score_of.ensures.score
    (record { ok = c.placed.ensures.ok; err = c.placed.ensures.err })
