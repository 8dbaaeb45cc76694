use Rattle.std.proofs.Common.{rules}
use Rattle.serving.proofs.Timing.{step_quits, step_works}
use Rattle.serving.proofs.answering.answer_one.Goals as goal

pub returns-then-done : goal.returns-then-done
returns-then-done g c = record {
  reply = _;
  may = step_quits _ _ _ _ _ _ _ _ _ _ c.moment_of-moment.result c.moment_of-moment.ensures c.in-Ok.ensures.executes (search rules);
  ends_run = search rules;
  wrote = search rules;
}

pub returns : goal.returns
returns g c = record {
  reply = _;
  may = step_works _ _ _ _ _ _ _ _ _ _ c.moment_of-moment.result c.moment_of-moment.ensures c.in-Ok.ensures.executes _ _ (search rules) c.rest.ensures;
  ends_run = search rules;
  wrote = search rules;
}
