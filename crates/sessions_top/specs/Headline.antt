-- What the call of several sessions answers: from words, a file, a clock and bytes in to bytes out, a status and a line.
use Rattle.std.specs.Prelude.{◌≡◌, ℕ}
use Rattle.outside.specs.Streams.{SourceSeen, SinkSeen}
use Rattle.program_top.specs.Given.{Options, Given, Outside}
use Rattle.program_top.specs.Headline.{standing_clock}
use Rattle.program_top.specs.Notes.{Notes}
use Rattle.program_top.specs.Starting.{Standing, Begins}
use Rattle.sessions.specs.declared.ending.SessionsEnded.{SessionsEnded}
use Rattle.sessions_top.specs.Plain.{MayServe, ServesSessions}
use Rattle.sessions_top.specs.Running.{RunsWords}
use Rattle.sessions_top.specs.Statuses.{status_of, line_of}
use Rattle.sessions_top.specs.declared.ending.SessionsEnding.{SessionsEnding}

-- so many sessions are served
abbrev pub sessions : ℕ
sessions = 16

-- a plain server that begins there serves them
abbrev pub may_serve : Options → Standing → SourceSeen → SourceSeen → SinkSeen → SinkSeen → Standing → SessionsEnded → Type 0
may_serve options first input input' old new last ended =
    ServesSessions (MayServe options.seed first) sessions options.max_input input input' old new last ended

-- the headline: a run, with its line in the notes, where the status alone is answered
pub record Concludes (given : Given) (before after : Outside) (status : ℕ) : Type 0 where
  pub ending : SessionsEnding
  pub is : status ≡ status_of ending
  pub run : RunsWords Begins may_serve standing_clock given before after ending
  pub line : Notes before.notes after.notes (line_of ending)
