-- The words of XPENDING.
use Rattle.std.proofs.Common.{◌≡◌, ◌≤◌, [], ◌∷◌, length, drop, Result, Ok, Err, ap, arith, length-drop}
use Rattle.std.proofs.lemmas.Bool.{le-leb}
use Rattle.std.specs.Prelude.{if◌then◌else◌}
use Rattle.plain_world.specs.Words.{Words}
use Rattle.plain_model.specs.Shapes.{Plain, AllTold, all_told, and_then, options_read, with_options}
use Rattle.plain_model.specs.StreamWords.{no_options}
use Rattle.plain_model.specs.declared.stream_command.StreamCommand.{StreamCommand}
use Rattle.plain_model.specs.declared.stream_command.StreamCommand.TheVariants as streams
use Rattle.plain_world.specs.declared.refusal.Refusal.{Refusal}
use Rattle.plain_world.specs.declared.refusal.Refusal.TheVariants.{WrongNumberOfArguments, Syntax}

abbrev pending_of : AllTold (Plain ∷ Plain ∷ []) → Unit {0} → Result StreamCommand Refusal
pending_of a o = Ok (streams.XPending a.0 a.1.0)

more_break : (own : Words) → 3 ≤ length own → with_options (Plain ∷ Plain ∷ []) no_options tt pending_of own ≡ Err Syntax
more_break [] many = absurd (omega (arith, many))
more_break (key ∷ []) many = absurd (omega (arith, many))
more_break (key ∷ group ∷ []) many = absurd (omega (arith, many))
more_break (key ∷ group ∷ word ∷ words) many =
    let own : Words = key ∷ group ∷ word ∷ words in
    ap (λ b. if b then and_then (all_told (Plain ∷ Plain ∷ []) own) (λ first. and_then (options_read no_options tt 0 (drop 2 own)) (pending_of first)) else Err WrongNumberOfArguments)
    (le-leb 2 (length own) (omega (arith, many)))

-- a word more than a key and a group
pub pending_more : (words : Words) → 4 ≤ length words → with_options (Plain ∷ Plain ∷ []) no_options tt pending_of (drop 1 words) ≡ Err Syntax
pending_more words many = more_break (drop 1 words) (omega (arith, many, length-drop 1 words))
