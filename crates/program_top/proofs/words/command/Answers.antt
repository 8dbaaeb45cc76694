use Rattle.std.proofs.Common.{◌≡◌, ap, ◌∙◌, true, codes, fold, ◌∷◌, []}
use Rattle.std.proofs.lemmas.Result.{IfOk-weaker}
use Rattle.clap.specs.Simple.{App, app_of, app_of_fields, new_app, on_top}
use Rattle.program_top.specs.Given as given
use Rattle.program_top.specs.Given.{with_option, load}
use Rattle.program_top.proofs.words.command.Goals as goal

pub returns : goal.returns
returns c =
    let bare : app_of c.no_binary_name-bare.result ≡ on_top (λ shape. record shape { no_binary_name = true }) (new_app (codes "redis-core")) =
    ap app_of_fields c.no_binary_name-bare.ensures ∙ ap (on_top (λ shape. record shape { no_binary_name = true })) c.new.ensures.app in
    let four = c.in_ok-command.ensures ∙ ap (λ (a : App). fold with_option a (load ∷ given.generate.name ∷ given.seed.name ∷ given.effort.name ∷ [])) bare in
    let eight = c.in_ok-command-2.ensures ∙ ap (λ (a : App). fold with_option a (given.max_input.name ∷ given.hash_entries.name ∷ given.set_entries.name ∷ given.zset_entries.name ∷ [])) four in
    IfOk-weaker c.with_four-3.result _ _
    (λ all e. e ∙ ap (λ (a : App). fold with_option a (given.hash_value.name ∷ given.set_value.name ∷ given.zset_value.name ∷ given.set_intset.name ∷ [])) eight) c.with_four-3.ensures
