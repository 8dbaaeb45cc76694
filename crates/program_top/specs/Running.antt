-- How a run goes, over any states of what serves.
use Rattle.std.specs.Prelude.{◌≡◌, ℕ, List, Option, false}
use Rattle.outside.specs.Clocks.{Answers}
use Rattle.outside.specs.Pacing.{PacerSeen}
use Rattle.plain_world.specs.Words.{Words}
use Rattle.plain_world.specs.declared.reply.Part.{Part}
use Rattle.plain_model.specs.Meant.{asks_to_quit}
use Rattle.serving.specs.Served.{Served}
use Rattle.serving.specs.Timed.{ReadsMoment}
use Rattle.serving.specs.declared.ending.Ended.{Ended}
use Rattle.serving.specs.declared.ending.Ended.TheVariants as served
use Rattle.program_top.specs.Generating.{WritesLines}
use Rattle.program_top.specs.Given.{Options, Given, Wrong, Run, Generate, Outside, LeavesAll}
use Rattle.program_top.specs.Starting.{NotBegun, UsesHost, is_host}
use Rattle.program_top.specs.Statuses.{ending_of}
use Rattle.program_top.specs.declared.ending.Ending.{Ending}
use Rattle.program_top.specs.declared.ending.Ending.TheVariants as endings

-- a run that doesn't begin reads the clock, takes nothing and writes nothing
pub record Fails (options : Options) (before after : Outside) (ending : Ending) : Type 0 where
  pub moment : ℕ
  pub read : ReadsMoment before.clock after.clock moment
  pub why : NotBegun before.host.files options.max_input options.file moment ending
  pub host : UsesHost options.max_input options.file before.host after.host (is_host ending)
  pub input : after.input ≡ before.input
  pub output : after.output ≡ before.output

-- unless memory wanted, the clock is read for the requests alone
abbrev pub ReadsNoMore : Ended → Option Answers → Option Answers → Type 0
ReadsNoMore served.Memory last after = Unit {0}
ReadsNoMore ended last after = after ≡ last

-- nothing comes of the last state
abbrev pub Drops : {E : Type 0} → E → Ended → Type 0
Drops last ended = Unit {0}

-- From a first state some replies are allowed to requests, on the way to a last one, also where the last of them met a
-- fault. Of the last one comes what is said of it and of how the serving ended.
module _ {E : Type 0} (Begins : Options → Outside → E → Type 0)
    (Allowed AllowedCut : Options → E → List Words → List (List Part) → E → Type 0) (clock_of : E → Option Answers)
    (Closes : E → Ended → Type 0) where
  -- it begins with a state, and replies that are allowed from there are written; or it doesn't begin
  pub data RunsOptions (options : Options) (before after : Outside) (ending : Ending) : Type 0 where
    begun : (first last : E) (ended : Ended) → Begins options before first
        → UsesHost options.max_input options.file before.host after.host false
        → Served (Allowed options first) (AllowedCut options first) asks_to_quit options.max_input
        before.input after.input before.output after.output last ended
        → ReadsNoMore ended (clock_of last) after.clock → ending ≡ ending_of ended → Closes last ended
        → RunsOptions options before after ending
    not_begun : Fails options before after ending → RunsOptions options before after ending

  -- lines that so many generated commands may have, with these pacers
  module _ (Lines : Options → ℕ → List PacerSeen → List ℕ → Type 0) where
    -- wrong words touch nothing, and generated commands have their lines written
    abbrev pub RunsOf : Given → Outside → Outside → Ending → Type 0
    RunsOf Wrong before after ending = (ending ≡ endings.Usage) × LeavesAll before after
    RunsOf (Run options) before after ending = RunsOptions options before after ending
    RunsOf (Generate n options) before after ending = WritesLines (Lines options n before.pacers) before after ending

    -- the words are read, or memory wants, which touches nothing
    pub data RunsWords (given : Given) (before after : Outside) (ending : Ending) : Type 0 where
      read : RunsOf given before after ending → RunsWords given before after ending
      unread : LeavesAll before after → ending ≡ endings.Memory → RunsWords given before after ending
