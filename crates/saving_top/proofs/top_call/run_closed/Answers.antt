use Rattle.std.proofs.Common.{sym, ◌∙◌}
use Rattle.program_top.specs.WordsRead.{options_read}
use Rattle.saving_top.specs.AskedRead.{closing_read}
use Rattle.saving_top.proofs.Fit.{left_fit}
use Rattle.saving_top.proofs.Whole.{zero_served, closed_answers, unclosed_answers}
use Rattle.saving_top.proofs.top_call.run_closed.Goals as goal

pub save_left-requires : goal.save_left-requires
save_left-requires g c = λ zero. left_fit (options_read c.args.options) _ _ c.run_open-ending.result.0 c.run_open-ending.result.1 c.in-Some.engine c.in-Some.is c.run_open-ending.ensures
    (sym c.status.ensures ∙ zero_served c.args.closing.audit c.status.result _ _ c.audit_left-audited.result c.audit_left-audited.ensures.audits zero)

pub returns-in-Some : goal.returns-in-Some
returns-in-Some g c =
    closed_answers (options_read c.args.options) (closing_read c.args.closing) _ _ _ _ _ c.audit_left-audited.result _ c.save_left.result c.run_open-ending.result.0 c.run_open-ending.result.1
    c.in-Some.engine c.in-Some.is c.run_open-ending.ensures c.status.result c.status.ensures c.audit_left-audited.ensures c.save_left.ensures

pub returns-in-None : goal.returns-in-None
returns-in-None g c =
    unclosed_answers (options_read c.args.options) (closing_read c.args.closing) _ _ _ c.run_open-ending.result.0 c.run_open-ending.result.1 c.in-None.is c.run_open-ending.ensures
    c.status-in-None.result c.status-in-None.ensures
