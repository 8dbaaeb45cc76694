-- What serving does with an engine that it is lent.
use Rattle.std.specs.Prelude.{◌≡◌, ℕ, true}
use Rattle.outside.specs.Streams.{SourceSeen, SinkSeen}
use Rattle.plain_model.specs.Meant.{asks_to_quit}
use Rattle.serving.specs.Path.{path, CutPath}
use Rattle.serving.specs.Served.{Served}
use Rattle.serving.specs.Timed.{Timed}
use Rattle.serving.specs.declared.ending.Ended.{Ended}
use Rattle.program_top.specs.Engines.{Engine}
use Rattle.program_top.specs.Headline.{MayAnswer}
use Rattle.program_top.specs.Notes.{Notes, line_of}
use Rattle.program_top.specs.Statuses.{status_of, ending_of}
use Rattle.program_top.specs.Stepped.{standing_of, Steps, StepsLast}

-- the input, the output and the notes
pub record Streams : Type 0 where
  pub input : SourceSeen
  pub output : SinkSeen
  pub notes : SinkSeen

-- the replies are those of the way from this engine to the one that is left
abbrev pub Goes : ℕ → Streams → Streams → Timed Engine → Timed Engine → Ended → Type 0
Goes limit before after first last ended =
    Served (path Steps first) (CutPath Steps StepsLast first) asks_to_quit limit
    before.input after.input before.output after.output last ended

-- the same, with the line of its end in the notes
pub record GoesNoted (limit : ℕ) (before after : Streams) (first last : Timed Engine) (ended : Ended) : Type 0 where
  pub goes : Goes limit before after first last ended
  pub line : Notes before.notes after.notes (line_of (ending_of ended))

-- A plain map that begins with what the engine holds may answer so, and holds in the end what the engine that is left
-- holds at the moment that it used last, unless memory wanted.
abbrev pub AnswersLent : ℕ → Streams → Streams → Timed Engine → Timed Engine → Ended → Type 0
AnswersLent limit before after first last ended =
    Served (MayAnswer first.engine.bases.seed (standing_of first)) (MayAnswer first.engine.bases.seed (standing_of first))
    asks_to_quit limit before.input after.input before.output after.output (standing_of last) ended

-- what `serve` answers
pub record Lent (limit : ℕ) (before after : Streams) (first last : Timed Engine) (status : ℕ) : Type 0 where
  pub ended : Ended
  pub is : status ≡ status_of (ending_of ended)
  pub goes : GoesNoted limit before after first last ended
  pub answers : AnswersLent limit before after first last ended
  -- memory was refused to the engine only where the status says that it wanted
  pub spent : last.engine.is_spent ≡ true → status ≡ 8
