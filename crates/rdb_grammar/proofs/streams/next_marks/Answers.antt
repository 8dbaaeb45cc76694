use Rattle.rdb_grammar.specs.StreamParts.{is_from, marks_with}
use Rattle.rdb_grammar.specs.Views.{marks_of}
use Rattle.rdb_grammar.proofs.StreamsExact.{marks_with_exact}
use Rattle.rdb_grammar.proofs.PlacedReads.{rest_fits, left_fits, placed_stands, placed_fails}
use Rattle.rdb_grammar.proofs.streams.next_marks.Goals as goal

pub placed-requires-clause-rest : goal.placed-requires-clause-rest
placed-requires-clause-rest c = rest_fits (marks_with c.args.stream c.args.live (is_from c.args.greatest)) (marks_with_exact c.args.stream c.args.live (is_from c.args.greatest)) marks_of
    c.args.bytes.now c.args.at c.marks_of.result c.requires c.marks_of.ensures

pub placed-requires-clause-left : goal.placed-requires-clause-left
placed-requires-clause-left c = left_fits (marks_with c.args.stream c.args.live (is_from c.args.greatest)) (marks_with_exact c.args.stream c.args.live (is_from c.args.greatest)) marks_of
    c.args.bytes.now c.args.at c.marks_of.result c.requires c.marks_of.ensures

pub returns-clause-marks : goal.returns-clause-marks
returns-clause-marks c =
    placed_stands (marks_with c.args.stream c.args.live (is_from c.args.greatest)) (marks_with_exact c.args.stream c.args.live (is_from c.args.greatest)) marks_of
    c.args.bytes.now c.args.at c.marks_of.result c.placed.result c.requires c.marks_of.ensures
    (record { ok = c.placed.ensures.ok; err = c.placed.ensures.err })

pub returns-clause-fault : goal.returns-clause-fault
returns-clause-fault c =
    placed_fails (marks_with c.args.stream c.args.live (is_from c.args.greatest)) (marks_with_exact c.args.stream c.args.live (is_from c.args.greatest)) marks_of
    c.args.bytes.now c.args.at c.marks_of.result c.placed.result c.requires c.marks_of.ensures
    (record { ok = c.placed.ensures.ok; err = c.placed.ensures.err })
