use Rattle.std.proofs.Common.{ℕ}
use Rattle.rdb_grammar.specs.Lengths.{a_length}
use Rattle.rdb_grammar.proofs.PartsExact.{a_length_exact}
use Rattle.rdb_grammar.proofs.PlacedReads.{rest_fits, left_fits, placed_stands, placed_fails}
use Rattle.rdb_grammar.proofs.streams.next_length.Goals as goal

pub placed-requires-clause-rest : goal.placed-requires-clause-rest
placed-requires-clause-rest c = rest_fits a_length a_length_exact (λ (n : ℕ). n) c.args.bytes.now c.args.at c.length_of.result c.requires c.length_of.ensures

pub placed-requires-clause-left : goal.placed-requires-clause-left
placed-requires-clause-left c = left_fits a_length a_length_exact (λ (n : ℕ). n) c.args.bytes.now c.args.at c.length_of.result c.requires c.length_of.ensures

pub returns-clause-number : goal.returns-clause-number
returns-clause-number c =
    placed_stands a_length a_length_exact (λ (n : ℕ). n) c.args.bytes.now c.args.at c.length_of.result c.placed.result c.requires c.length_of.ensures
    (record { ok = c.placed.ensures.ok; err = c.placed.ensures.err })

pub returns-clause-fault : goal.returns-clause-fault
returns-clause-fault c =
    placed_fails a_length a_length_exact (λ (n : ℕ). n) c.args.bytes.now c.args.at c.length_of.result c.placed.result c.requires c.length_of.ensures
    (record { ok = c.placed.ensures.ok; err = c.placed.ensures.err })
