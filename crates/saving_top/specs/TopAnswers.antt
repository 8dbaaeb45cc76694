-- The whole answer of the call that may save.
use Rattle.std.specs.Prelude.{◌≡◌, ℕ, List, Option}
use Rattle.outside.specs.Counts.{Rose}
use Rattle.outside.specs.Files.{ShelfSeen}
use Rattle.outside.specs.Streams.{SinkSeen}
use Rattle.program_top.specs.Engines.{Engine}
use Rattle.program_top.specs.Given.{Options, Run, Outside}
use Rattle.program_top.specs.Headline.{Completes}
use Rattle.program_top.specs.Starting.{Standing}
use Rattle.program_top.specs.Stepped.{standing_of}
use Rattle.program_top.specs.TopAnswers.{AnswersBy}
use Rattle.program_top.specs.TopAnswers as plain
use Rattle.saving_top.specs.Asked.{Asked, Plain, Closed, Closing}
use Rattle.saving_top.specs.Closing.{Audits, TellsSlabs, Saves, StoresIn}
use Rattle.serving.specs.Timed.{Timed}
use Rattle.serving.specs.declared.ending.Ended.{Ended}

-- what comes of the world that is left
abbrev pub Keeps : Option (List ℕ) → ShelfSeen → ShelfSeen → ℕ → Standing → Ended → Type 0
Keeps save shelf shelf' status last ended = Saves save shelf shelf' status last.world last.last

-- what comes of the engine that is left: the same of the world that it holds, and its slabs are told
abbrev pub KeepsEngine : Closing → ShelfSeen → ShelfSeen → ℕ → SinkSeen → SinkSeen → ℕ → Timed Engine → Ended → Type 0
KeepsEngine closing shelf shelf' audited noted told status last ended =
    Keeps closing.save shelf shelf' status (standing_of last) ended
    × TellsSlabs closing.audit audited noted told last.engine

-- what a run answers behind which more may be done
pub record ClosedAnswers (options : Options) (closing : Closing) (before after : Outside) (shelf shelf' : ShelfSeen)
    (status : ℕ) : Type 0 where
  -- the status that the serving ended with, and the notes behind it
  pub served : ℕ
  pub noted : SinkSeen
  -- those behind the lines of the slabs
  pub audited : ℕ
  pub told : SinkSeen
  -- all that is answered where nothing is done; and of the last engine of this run come the lines of its slabs, and of the
  -- world that the run leaves a file of it
  pub serves : AnswersBy (Keeps closing.save shelf shelf' status)
      (KeepsEngine closing shelf shelf' audited noted told status) (Run options) before
      (record after { notes = noted }) served
  pub audits : Audits closing.audit served noted told audited
  pub stores : StoresIn closing.save audited told after.notes shelf shelf' status
  -- where the shelf counts no fault either, a run surely ends with status 0, or 8, as one behind which nothing is done
  pub complete : (Rose shelf.faults shelf'.faults → ⊥) → Completes (Run options) before after status

-- Where nothing is done behind it, what `redis_core` answers, and the shelf is left alone.
abbrev pub TopAnswers : Asked → Outside → Outside → ShelfSeen → ShelfSeen → ℕ → Type 0
TopAnswers (Plain given) before after shelf shelf' status =
    plain.TopAnswers given before after status × (shelf' ≡ shelf)
TopAnswers (Closed options closing) before after shelf shelf' status =
    ClosedAnswers options closing before after shelf shelf' status
