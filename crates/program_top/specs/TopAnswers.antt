-- The whole answer of the top call.
use Rattle.std.specs.Prelude.{ℕ}
use Rattle.program_top.specs.Engines.{Engine}
use Rattle.program_top.specs.Given.{Given, Outside}
use Rattle.program_top.specs.Headline.{Concludes, CountsFaults, Exactly, Completes, NotesStatus}
use Rattle.program_top.specs.Running.{Drops}
use Rattle.program_top.specs.Starting.{Standing}
use Rattle.program_top.specs.Stepped.{StepsStatus}
use Rattle.serving.specs.Timed.{Timed}
use Rattle.serving.specs.declared.ending.Ended.{Ended}

-- what a run answers: the headline, the states of its engine, and what both come to, where this comes of the world that is
-- left and of the engine that is
pub record AnswersBy (Closes : Standing → Ended → Type 0) (ClosesEngine : Timed Engine → Ended → Type 0) (given : Given)
    (before after : Outside) (status : ℕ) : Type 0 where
  pub headline : Concludes Closes given before after status
  pub stepped : StepsStatus ClosesEngine given before after status
  pub counts : CountsFaults given before after status
  pub exact : Exactly given before after status
  pub complete : Completes given before after status
  pub notes : NotesStatus before after status

-- what the top call answers, which drops the engine
abbrev pub TopAnswers : Given → Outside → Outside → ℕ → Type 0
TopAnswers = AnswersBy Drops Drops
