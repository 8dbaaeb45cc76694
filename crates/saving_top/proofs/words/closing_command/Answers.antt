use Rattle.std.proofs.Common.{ap, ◌∙◌}
use Rattle.std.proofs.lemmas.Result.{IfOk-weaker}
use Rattle.clap.specs.Simple.{App}
use Rattle.program_top.specs.Given.{with_option}
use Rattle.saving_top.specs.Asked.{audit, save, with_flag}
use Rattle.saving_top.proofs.words.closing_command.Goals as goal

pub returns : goal.returns
returns c =
    let saving = c.in_ok-saving.ensures ∙ ap (λ (a : App). with_option a save) c.in_ok-plain.ensures in
    IfOk-weaker c.with_flag.result _ _ (λ all e. e ∙ ap (λ (a : App). with_flag a audit) saving) c.with_flag.ensures
