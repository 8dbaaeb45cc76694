-- A command that its own reader made of the words, among all commands.
use Rattle.std.proofs.Common.{Result, Ok, Err, ap}
use Rattle.plain_model.specs.Shapes.{and_then}
use Rattle.plain_model.specs.declared.command.Command.{Command}
use Rattle.plain_world.specs.declared.refusal.Refusal.{Refusal}
use Rattle.command_words.specs.declared.fault.ReadingFault.{ReadingFault}
use Rattle.command_words.specs.declared.fault.ReadingFault.TheVariants.{Refused, Memory}
use Rattle.command_words.specs.Readings.{Tells, ReadsAs}

pub lifted : {C : Type 0} (family : C → Command) (means : Result C Refusal) (answer : Result C ReadingFault) → Tells means answer
    → ReadsAs family (and_then means (λ command. Ok (family command))) answer
lifted family means (Ok command) h = ap (λ r. and_then r (λ command. Ok (family command))) h
lifted family means (Err (Refused refusal)) h = ap (λ r. and_then r (λ command. Ok (family command))) h
lifted family means (Err Memory) h = absurd h
