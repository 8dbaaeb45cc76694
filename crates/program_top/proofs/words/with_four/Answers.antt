use Rattle.std.proofs.Common.{ap, ◌∙◌}
use Rattle.std.proofs.lemmas.Result.{IfOk-weaker}
use Rattle.clap.specs.Simple.{App}
use Rattle.program_top.specs.Given.{with_option}
use Rattle.program_top.proofs.words.with_four.Goals as goal

pub returns : goal.returns
returns c =
    let two = c.in_ok-command-2.ensures ∙ ap (λ (a : App). with_option a c.args.second.now) c.in_ok-command.ensures in
    let three = c.in_ok-command-3.ensures ∙ ap (λ (a : App). with_option a c.args.third.now) two in
    IfOk-weaker c.with_option-4.result _ _ (λ all e. e ∙ ap (λ (a : App). with_option a c.args.fourth.now) three) c.with_option-4.ensures
