use Rattle.std.proofs.Common.{◌∙◌, sym, ap}
use Rattle.std.proofs.lemmas.List.{take_rest}
use Rattle.rdb_grammar.specs.Items.{part}
use Rattle.rdb_grammar.specs.Views.{part_said}
use Rattle.rdb_grammar.proofs.PartsExact.{part_exact}
use Rattle.rdb_grammar.proofs.Standing.{found, broken}
use Rattle.rdb_grammar.proofs.Partly.{stands_part, fails_part}
use Rattle.rdb_grammar.proofs.next.bare_item.Goals as goal

pub overflow_sub-result : goal.overflow_sub-result
overflow_sub-result c =
    (found part part_exact c.args.bytes.now c.args.at (part_said c.in-Ok.meaning) c.in-Ok.rest.now c.requires
    (ap part.read (sym (take_rest c.args.bytes.now c.args.at)) ∙ c.in-Ok.ensures)).fits

pub overflow_sub-result-in-Err : goal.overflow_sub-result-in-Err
overflow_sub-result-in-Err c =
    (broken part part_exact c.args.bytes.now c.args.at c.in-Err.e.kind c.in-Err.e.left c.requires (ap part.read (sym (take_rest c.args.bytes.now c.args.at)) ∙ c.in-Err.ensures)).fits

pub returns-in-Ok-clause-item : goal.returns-in-Ok-clause-item
returns-in-Ok-clause-item c = stands_part (part_said c.in-Ok.meaning) c.args.bytes.now c.args.at _
    (found part part_exact c.args.bytes.now c.args.at (part_said c.in-Ok.meaning) c.in-Ok.rest.now c.requires
    (ap part.read (sym (take_rest c.args.bytes.now c.args.at)) ∙ c.in-Ok.ensures)).stands

pub returns-in-Err-clause-fault : goal.returns-in-Err-clause-fault
returns-in-Err-clause-fault c = fails_part c.args.bytes.now c.args.at c.in-Err.e.kind _
    (broken part part_exact c.args.bytes.now c.args.at c.in-Err.e.kind c.in-Err.e.left c.requires (ap part.read (sym (take_rest c.args.bytes.now c.args.at)) ∙ c.in-Err.ensures)).fails
