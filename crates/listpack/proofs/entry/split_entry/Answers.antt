use Rattle.std.proofs.Common.{◌∙◌}
use Rattle.listpack.proofs.Regions.{stripped, not_stripped}
use Rattle.listpack.proofs.entry.split_entry.Goals as goal

pub returns-in-Some-strip_prefix-clause-ok : goal.returns-in-Some-strip_prefix-clause-ok
returns-in-Some-strip_prefix-clause-ok c =
    let split = c.in-Some.ensures.some in
    let cut = c.in-Some-strip_prefix.ensures.cases in (
      stripped c.args.rest.now c.in-Some.spelling.now c.in-Some.more.now c.as_slice.result.now c.in-Some-strip_prefix.after.now split.0
          (c.as_slice.ensures ∙ c.back_length_of-back_length.ensures) cut.0 cut.1,
      split.1,
    )

pub returns-in-None-clause-err : goal.returns-in-None-clause-err
returns-in-None-clause-err c =
    let split = c.in-Some.ensures.some in
    not_stripped c.args.rest.now c.in-Some.spelling.now c.in-Some.more.now c.as_slice.result.now split.0 split.1 (c.as_slice.ensures ∙ c.back_length_of-back_length.ensures) c.in-None.ensures.cases
