-- A run of several sessions, as its engine takes it.
use Rattle.std.specs.Prelude.{◌≡◌, ℕ, List, map, Option}
use Rattle.class_heap.specs.Heap.{heap_blocks, heap_slabs, IsClassHeapStep}
use Rattle.outside.specs.Clocks.{Answers}
use Rattle.outside.specs.Pacing.{tuned}
use Rattle.outside.specs.Streams.{SourceSeen, SinkSeen}
use Rattle.outside.specs.declared.pacing.Plan.{Plan}
use Rattle.plain_world.specs.Words.{Words}
use Rattle.plain_world.specs.declared.reply.Part.{Part}
use Rattle.program_top.specs.Engines.{Engine, world_of, works, IsFirst}
use Rattle.program_top.specs.Given.{Options, Given, Outside}
use Rattle.program_top.specs.Starting.{Standing, Begins}
use Rattle.redis_core.specs.Engines.{Executes}
use Rattle.serving.specs.Timed.{Timed}
use Rattle.session_desk.specs.Desks.{DeskAnswers, DeskRests}
use Rattle.session_desk.specs.Engines.{View}
use Rattle.session_desk.specs.OverEngine.{engine_view}
use Rattle.session_desk.specs.Kept.{DeskSeen, new_kept, session_at, turned}
use Rattle.sessions.specs.Served.{Served}
use Rattle.sessions.specs.declared.ending.SessionsEnded.{SessionsEnded}
use Rattle.sessions_top.specs.Headline.{sessions}
use Rattle.sessions_top.specs.Running.{RunsOf, RunsWords}
use Rattle.sessions_top.specs.Statuses.{status_of, line_of}
use Rattle.sessions_top.specs.declared.ending.SessionsEnding.{SessionsEnding}
use Rattle.program_top.specs.Notes.{Notes}

-- what is told of the engine
abbrev pub view : View Engine
view = engine_view heap_blocks

-- the sessions at the engine
abbrev pub Desk : Type 0
Desk = DeskSeen Engine

-- it turns to a session
abbrev pub turns : ℕ → Desk → Desk → Type 0
turns session old new = new ≡ turned old session

-- a request of a session is answered by the engine's own steps: its database is selected before each command, and those of
-- one EXEC have nothing between them
abbrev pub answers : ℕ → Desk → Words → List Part → Desk → Type 0
answers moment old words reply new = DeskAnswers view (Executes heap_blocks heap_slabs IsClassHeapStep) moment old words reply new

-- what is planned is the engine's own work
abbrev pub rests : ℕ → Plan → Desk → Desk → Type 0
rests moment plan old new = DeskRests works moment plan old new

-- where a desk and its clock stand
abbrev pub standing_of : Timed Desk → Standing
standing_of timed = record { world = world_of timed.engine.engine; last = timed.engine.engine.last; clock = timed.clock }

-- The run begins with an engine that holds the world and has the seed and the limits, sound over a store that was
-- served from the first block on, at which no session said a word. Each pacer was tuned to the effort.
pub record BeginsDesk (options : Options) (before : Outside) (first : Timed Desk) : Type 0 where
  pub begins : Begins options before (standing_of first)
  pub is : IsFirst options.seed options.limits first.engine.engine
  pub silent : (number : ℕ) → session_at first.engine.sessions number ≡ new_kept
  pub paced : first.pacers ≡ map (λ p. tuned p options.effort) before.pacers

-- the units are those of the desk's way
abbrev pub serves : Options → Timed Desk → SourceSeen → SourceSeen → SinkSeen → SinkSeen → Timed Desk → SessionsEnded → Type 0
serves options first input input' old new last ended =
    Served turns answers rests sessions options.max_input input input' old new first last ended

abbrev pub desk_clock : Timed Desk → Option Answers
desk_clock timed = timed.clock

-- what is given runs at the desk
abbrev pub RunsDesk : Given → Outside → Outside → SessionsEnding → Type 0
RunsDesk = RunsOf BeginsDesk serves desk_clock

-- the same, with its line in the notes
pub record RunsNoted (given : Given) (before after : Outside) (ending : SessionsEnding) : Type 0 where
  pub run : RunsDesk given before after ending
  pub line : Notes before.notes after.notes (line_of ending)

-- the same of the ending of this status
pub record StepsStatus (given : Given) (before after : Outside) (status : ℕ) : Type 0 where
  pub ending : SessionsEnding
  pub is : status ≡ status_of ending
  pub run : RunsWords BeginsDesk serves desk_clock given before after ending
