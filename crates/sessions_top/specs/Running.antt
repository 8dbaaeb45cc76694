-- How a run of several sessions goes, over any states of what serves.
use Rattle.std.specs.Prelude.{◌≡◌, Option, false}
use Rattle.outside.specs.Clocks.{Answers}
use Rattle.outside.specs.Streams.{SourceSeen, SinkSeen}
use Rattle.program_top.specs.Given.{Options, Given, Wrong, Run, Generate, Outside, LeavesAll}
use Rattle.program_top.specs.Running.{Fails}
use Rattle.program_top.specs.Starting.{UsesHost}
use Rattle.program_top.specs.declared.ending.Ending.{Ending}
use Rattle.program_top.specs.declared.ending.Ending.TheVariants as plain
use Rattle.serving.specs.declared.ending.Ended.TheVariants as served
use Rattle.sessions.specs.declared.ending.SessionsEnded.{SessionsEnded}
use Rattle.sessions.specs.declared.ending.SessionsEnded.TheVariants as ended_by
use Rattle.sessions_top.specs.Statuses.{ending_of}
use Rattle.sessions_top.specs.declared.ending.SessionsEnding.{SessionsEnding}
use Rattle.sessions_top.specs.declared.ending.SessionsEnding.TheVariants as endings

-- unless memory wanted, the clock is read for the requests alone
abbrev pub ReadsNoMore : SessionsEnded → Option Answers → Option Answers → Type 0
ReadsNoMore (ended_by.Plain served.Memory) last after = Unit {0}
ReadsNoMore (ended_by.Plain served.WriteFault) last after = Unit {0}
ReadsNoMore ended last after = after ≡ last

-- From a first state sessions are served to a last one.
module _ {E : Type 0} (Begins : Options → Outside → E → Type 0)
    (Serves : Options → E → SourceSeen → SourceSeen → SinkSeen → SinkSeen → E → SessionsEnded → Type 0)
    (clock_of : E → Option Answers) where
  -- it begins with a state, from which the sessions are served; or it doesn't begin
  pub data RunsOptions (options : Options) (before after : Outside) (ending : SessionsEnding) : Type 0 where
    begun : (first last : E) (ended : SessionsEnded) → Begins options before first
        → UsesHost options.max_input options.file before.host after.host false
        → Serves options first before.input after.input before.output after.output last ended
        → ReadsNoMore ended (clock_of last) after.clock → ending ≡ ending_of ended
        → RunsOptions options before after ending
    not_begun : (why : Ending) → Fails options before after why → ending ≡ endings.Run why
        → RunsOptions options before after ending

  -- wrong words touch nothing, and so do those that ask for generated commands
  abbrev pub RunsOf : Given → Outside → Outside → SessionsEnding → Type 0
  RunsOf Wrong before after ending = (ending ≡ endings.Run plain.Usage) × LeavesAll before after
  RunsOf (Run options) before after ending = RunsOptions options before after ending
  RunsOf (Generate n options) before after ending = (ending ≡ endings.Run plain.Usage) × LeavesAll before after

  -- the words are read, or memory wants, which touches nothing
  pub data RunsWords (given : Given) (before after : Outside) (ending : SessionsEnding) : Type 0 where
    read : RunsOf given before after ending → RunsWords given before after ending
    unread : LeavesAll before after → ending ≡ endings.Run plain.Memory → RunsWords given before after ending
