use Rattle.std.proofs.Common.{◌∙◌, sym, ap}
use Rattle.std.proofs.lemmas.List.{take_rest}
use Rattle.rdb_grammar.specs.StreamParts.{times}
use Rattle.rdb_grammar.proofs.StreamsExact.{times_exact}
use Rattle.rdb_grammar.proofs.Standing.{found, broken}
use Rattle.rdb_grammar.proofs.streams.next_times.Goals as goal

pub overflow_sub-result : goal.overflow_sub-result
overflow_sub-result c =
    (found (times c.args.stream) (times_exact c.args.stream) c.args.bytes.now c.args.at tt c.in-Ok.rest.now c.requires
    (ap (times c.args.stream).read (sym (take_rest c.args.bytes.now c.args.at)) ∙ c.in-Ok.ensures)).fits

pub overflow_sub-result-in-Err : goal.overflow_sub-result-in-Err
overflow_sub-result-in-Err c =
    (broken (times c.args.stream) (times_exact c.args.stream) c.args.bytes.now c.args.at c.in-Err.e.kind c.in-Err.e.left c.requires
    (ap (times c.args.stream).read (sym (take_rest c.args.bytes.now c.args.at)) ∙ c.in-Err.ensures)).fits

pub returns-in-Ok-clause-times : goal.returns-in-Ok-clause-times
returns-in-Ok-clause-times c =
    (found (times c.args.stream) (times_exact c.args.stream) c.args.bytes.now c.args.at tt c.in-Ok.rest.now c.requires
    (ap (times c.args.stream).read (sym (take_rest c.args.bytes.now c.args.at)) ∙ c.in-Ok.ensures)).stands

pub returns-in-Err-clause-fault : goal.returns-in-Err-clause-fault
returns-in-Err-clause-fault c =
    (broken (times c.args.stream) (times_exact c.args.stream) c.args.bytes.now c.args.at c.in-Err.e.kind c.in-Err.e.left c.requires
    (ap (times c.args.stream).read (sym (take_rest c.args.bytes.now c.args.at)) ∙ c.in-Err.ensures)).fails
