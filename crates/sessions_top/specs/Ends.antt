-- What the words behind the program's name come to.
use Rattle.std.specs.Prelude.{◌≡◌, ℕ, List}
use Rattle.outside.specs.Streams.{SinkSeen}
use Rattle.program_top.specs.Given.{Outside, given_by}
use Rattle.sessions_top.specs.TopAnswers.{TopAnswers}

-- what the call answers to the words, whatever stands outside but for the notes
pub record Answers (words : List (List ℕ)) (noted noted' : SinkSeen) (status : ℕ) : Type 0 where
  pub before : Outside
  pub after : Outside
  pub noted_is : before.notes ≡ noted
  pub noted_then : after.notes ≡ noted'
  pub answers : TopAnswers (given_by words) before after status
