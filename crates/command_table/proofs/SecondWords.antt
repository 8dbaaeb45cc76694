-- The rows of second words, from what their own words tell.
use Rattle.std.proofs.Common.{◌≡◌, ℕ, ◌≤◌, List, [], ◌∷◌, length, drop, Bool, true, false, Result, Ok, Err, ap, ◌∙◌, arith, length-drop}
use Rattle.std.specs.Prelude.{bytes_eq, codes, if◌then◌else◌}
use Rattle.std.proofs.lemmas.Bool.{le-leb}
use Rattle.plain_world.specs.Words.{Words, in_lower_case}
use Rattle.plain_model.specs.Shapes.{Steps, AllTold, and_then, fixed, second_read, by_second}
use Rattle.plain_model.specs.ConnectionWords.{debug_rows}
use Rattle.plain_model.specs.declared.connection.ConnectionCommand.{ConnectionCommand}
use Rattle.plain_model.specs.declared.connection.ConnectionCommand.TheVariants as connection
use Rattle.plain_world.specs.declared.refusal.Refusal.{Refusal}
use Rattle.plain_world.specs.declared.refusal.Refusal.TheVariants.{WrongNumberOfArguments, Syntax}
use Rattle.command_words.specs.declared.fault.ReadingFault.{ReadingFault}
use Rattle.command_words.specs.declared.fault.ReadingFault.TheVariants.{Refused, Memory}
use Rattle.command_words.specs.Readings.{word_at, Tells, TellsAs}
use Rattle.command_table.proofs.Arms.{fixed_then}
use Rattle.command_words.proofs.Shapes.{from_place}

abbrev rehash : AllTold (Steps ∷ []) → Result ConnectionCommand Refusal
rehash a = Ok (connection.DebugRehash a.0)

abbrev defrag : AllTold (Steps ∷ []) → Result ConnectionCommand Refusal
defrag a = Ok (connection.DebugDefrag a.0)

module _ (words : Words) (many : 3 ≤ length words) where
  abbrev second : Bool → Bool → Result ConnectionCommand Refusal
  second first other =
      if first then fixed (Steps ∷ []) rehash (drop 2 words)
      else (if other then fixed (Steps ∷ []) defrag (drop 2 words) else Err Syntax)

  abbrev lower : List ℕ
  lower = in_lower_case (word_at words 1)

  second_is : by_second 2 debug_rows (drop 1 words) ≡ second (bytes_eq lower (codes "rehash")) (bytes_eq lower (codes "defrag"))
  second_is =
      ap (by_second 2 debug_rows) (from_place words 1 (omega (arith, many)))
      ∙ ap (λ b. if b then second_read debug_rows (word_at words 1) (drop 2 words) else Err WrongNumberOfArguments)
      (le-leb 2 (length (word_at words 1 ∷ drop 2 words)) (omega (arith, many, length-drop 2 words)))

  -- the number of steps of DEBUG DEFRAG is refused
  pub defrag_refused : (fault : ReadingFault) → bytes_eq lower (codes "rehash") ≡ false → bytes_eq lower (codes "defrag") ≡ true
      → TellsAs (λ (a : ℕ). (a, tt)) (fixed (Steps ∷ []) (λ a. Ok a) (drop 2 words)) (Err fault) → Tells (by_second 2 debug_rows (drop 1 words)) (Err fault)
  defrag_refused (Refused refusal) e f h =
      second_is ∙ ap (λ b. second b (bytes_eq lower (codes "defrag"))) e ∙ ap (second false) f ∙ fixed_then (Steps ∷ []) defrag (drop 2 words) ∙ ap (λ r. and_then r defrag) h
  defrag_refused Memory e f h = absurd h
