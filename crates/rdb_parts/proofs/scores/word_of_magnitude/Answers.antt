use Rattle.std.proofs.Common.{◌≡◌, ◌<◌, ◌+◌, ◌-◌, ◌*◌, ◌^◌, sym, subst, arith}
use Rattle.rdb_parts.specs.ScoreWords.{bits_of, significand, magnitude_word}
use Rattle.rdb_parts.proofs.Scored.{significand_range, magnitude_fits, zero_word, word_is}
use Rattle.rdb_parts.proofs.scores.word_of_magnitude.Goals as goal

pub returns-then-n-eq0-clause-value : goal.returns-then-n-eq0-clause-value
returns-then-n-eq0-clause-value c = zero_word c.args.n (omega (arith, c.if-n-eq0.true))

pub overflow_sub-fraction : goal.overflow_sub-fraction
overflow_sub-fraction c =
    let range = significand_range c.args.n (omega (arith, c.if-n-eq0.false)) c.requires in
    omega (arith, c.significand_of.ensures, range.0)

pub overflow_add-result-2 : goal.overflow_add-result-2
overflow_add-result-2 c =
    let is : (1022 + c.from.result) * 2 ^ 52 + (c.significand_of.result - 2 ^ 52) ≡ magnitude_word c.args.n =
    word_is c.args.n c.from.result c.significand_of.result (omega (arith, c.if-n-eq0.false)) c.significand_of.ensures (omega (arith, c.from.ensures)) in
    omega (arith, is, magnitude_fits c.args.n c.requires)

pub returns-clause-value : goal.returns-clause-value
returns-clause-value c = word_is c.args.n c.from.result c.significand_of.result (omega (arith, c.if-n-eq0.false)) c.significand_of.ensures (omega (arith, c.from.ensures))

pub returns-clause-fits : goal.returns-clause-fits
returns-clause-fits c =
    let is : (1022 + c.from.result) * 2 ^ 52 + (c.significand_of.result - 2 ^ 52) ≡ magnitude_word c.args.n =
    word_is c.args.n c.from.result c.significand_of.result (omega (arith, c.if-n-eq0.false)) c.significand_of.ensures (omega (arith, c.from.ensures)) in
    omega (arith, is, magnitude_fits c.args.n c.requires)
