-- A run, as its engine takes it.
use Rattle.std.specs.Prelude.{◌≡◌, ℕ, List, map, Option, Some}
use Rattle.outside.specs.Clocks.{Answers}
use Rattle.outside.specs.Pacing.{tuned}
use Rattle.class_heap.specs.Heap.{heap_blocks, heap_slabs, IsClassHeapStep}
use Rattle.plain_world.specs.Words.{Words}
use Rattle.plain_world.specs.declared.reply.Part.{Part}
use Rattle.plain_model.specs.Meant.{asks_to_quit}
use Rattle.redis_core.specs.Engines.{Executes}
use Rattle.serving.specs.Path.{path, CutPath}
use Rattle.serving.specs.Timed.{Timed, TimedStep, TimedCut}
use Rattle.serving.specs.declared.ending.Ended.{Ended}
use Rattle.program_top.specs.Engines.{Engine, world_of, works, IsFirst}
use Rattle.program_top.specs.Generating.{GeneratesOn}
use Rattle.program_top.specs.Given.{Options, Given, Outside}
use Rattle.program_top.specs.Notes.{Notes, line_of}
use Rattle.program_top.specs.Running.{RunsOf, RunsWords}
use Rattle.program_top.specs.Starting.{Standing, Begins}
use Rattle.program_top.specs.Statuses.{status_of}
use Rattle.program_top.specs.declared.ending.Ending.{Ending}

-- where an engine and its clock stand
abbrev pub standing_of : Timed Engine → Standing
standing_of timed = record { world = world_of timed.engine; last = timed.engine.last; clock = timed.clock }

-- a request is answered at the moment that the clock tells, and then what the pacers plan is done
abbrev pub Steps : Timed Engine → Words → List Part → Timed Engine → Type 0
Steps = TimedStep (Executes heap_blocks heap_slabs IsClassHeapStep) works asks_to_quit

-- a request is answered, and nothing comes after it
abbrev pub StepsLast : Timed Engine → Words → List Part → Timed Engine → Type 0
StepsLast = TimedCut (Executes heap_blocks heap_slabs IsClassHeapStep) works asks_to_quit

-- The run begins with an engine that holds the world and has the seed and the limits, sound over a store that was
-- served from the first block on. Each pacer was tuned to the effort.
pub record BeginsEngine (options : Options) (before : Outside) (first : Timed Engine) : Type 0 where
  pub begins : Begins options before (standing_of first)
  pub is : IsFirst options.seed options.limits first.engine
  pub paced : first.pacers ≡ map (λ p. tuned p options.effort) before.pacers

-- the replies are those of the engine's way
abbrev pub goes : Options → Timed Engine → List Words → List (List Part) → Timed Engine → Type 0
goes options first = path Steps first

-- the same, where the reply to the last request may have met a fault
abbrev pub goes_cut : Options → Timed Engine → List Words → List (List Part) → Timed Engine → Type 0
goes_cut options first = CutPath Steps StepsLast first

-- the clock's answers that follow
abbrev pub engine_clock : Timed Engine → Option Answers
engine_clock timed = timed.clock

-- of an engine that is left this comes
module _ (Closes : Timed Engine → Ended → Type 0) where
  -- what is given runs on the engine
  abbrev pub RunsEngine : Given → Outside → Outside → Ending → Type 0
  RunsEngine = RunsOf BeginsEngine goes goes_cut engine_clock Closes GeneratesOn

  -- the same, with its line in the notes
  pub record RunsNoted (given : Given) (before after : Outside) (ending : Ending) : Type 0 where
    pub run : RunsEngine given before after ending
    pub line : Notes before.notes after.notes (line_of ending)

  -- the same of the ending of this status
  pub record StepsStatus (given : Given) (before after : Outside) (status : ℕ) : Type 0 where
    pub ending : Ending
    pub is : status ≡ status_of ending
    pub run : RunsWords BeginsEngine goes goes_cut engine_clock Closes GeneratesOn given before after ending

-- the engine that is handed out is the last one
abbrev pub Leaves : Option Engine → Timed Engine → Ended → Type 0
Leaves left last ended = left ≡ Some last.engine
