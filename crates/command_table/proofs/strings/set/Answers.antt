use Rattle.std.proofs.Common.{ℕ, List, [], ◌∷◌, Result, Err, drop, subst, rules}
use Rattle.plain_model.specs.Shapes.{Plain, with_options}
use Rattle.plain_model.specs.StringWords.{set_options, no_set_options, set_of}
use Rattle.plain_model.specs.declared.command.SetOptionsRead.{SetOptionsRead}
use Rattle.plain_model.specs.declared.command.StringCommand.{StringCommand}
use Rattle.plain_world.specs.declared.refusal.Refusal.{Refusal}
use Rattle.command_words.specs.Readings.{Tells, and_options}
use Rattle.command_table.proofs.Arms.{options_refused}
use Rattle.command_table.proofs.strings.set.Goals as goal

pub returns-in_err-key : goal.returns-in_err-key
returns-in_err-key c =
    let words = c.args.request.now in
    let make : List ℕ × (List ℕ × Unit {0}) → SetOptionsRead → Result StringCommand Refusal = λ a o. set_of a.0 a.1.0 o in
    let refused : Tells (with_options (Plain ∷ Plain ∷ []) set_options no_set_options make (drop 1 words)) (Err c.in_err-key.field-0.0) =
    options_refused (Plain ∷ Plain ∷ []) set_options no_set_options make words c.in_err-key.field-0.0
    (subst (λ (none : SetOptionsRead). Tells (and_options (Plain ∷ Plain ∷ []) set_options none words) (Err c.in_err-key.field-0.0)) c.no_set_options.ensures c.in_err-key.ensures) in
    search rules
