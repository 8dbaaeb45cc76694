-- The whole answer of the call of several sessions.
use Rattle.std.specs.Prelude.{◌≡◌, ◌⊎◌, ℕ, ◌<◌, List, ◌++◌, length, Option, Some}
use Rattle.outside.specs.Counts.{Rose}
use Rattle.outside.specs.Streams.{Fits}
use Rattle.plain_sessions.specs.Arrivals.{Sent, Arrival}
use Rattle.plain_sessions.specs.Pieces.{Stop, Outside as Between, Pieced, Brings}
use Rattle.program_top.specs.Given.{Options, Given, Wrong, Run, Generate, Outside}
use Rattle.program_top.specs.Headline.{CountsFaults, CanBegin, Excused, OfFiles, NoHostFault}
use Rattle.program_top.specs.Starting.{Standing, Begins}
use Rattle.serving.specs.Exactly.{NoReadFault}
use Rattle.sessions.specs.Served.{IsCutSession, EndsBy}
use Rattle.sessions.specs.declared.ending.SessionsEnded.{SessionsEnded}
use Rattle.sessions_top.specs.Headline.{Concludes, sessions}
use Rattle.sessions_top.specs.Plain.{MayServe}
use Rattle.sessions_top.specs.Statuses.{status_of, ending_of}
use Rattle.sessions_top.specs.Stepped.{StepsStatus}

-- words that are none of this call: wrong ones, and those that ask for generated commands
abbrev pub AreWrong : Given → Type 0
AreWrong Wrong = Unit {0}
AreWrong (Run options) = ⊥
AreWrong (Generate n options) = Unit {0}

-- want of memory, a failed put, or all arrivals and then what ends a run of these bytes
pub data EndsExactly (limit : ℕ) (taken : List ℕ) (stop : Stop) (sent : List Sent) (left : Option (List ℕ))
    (status : ℕ) : Type 0 where
  excused : (status ≡ 5) ⊎ (status ≡ 8) → EndsExactly limit taken stop sent left status
  by : (ended : SessionsEnded) → EndsBy sessions limit taken stop sent left ended → status ≡ status_of (ending_of ended)
      → EndsExactly limit taken stop sent left status

-- when each status comes, unless the host failed or memory wanted
pub record Exactly (given : Given) (before after : Outside) (status : ℕ) : Type 0 where
  pub wrong : AreWrong given → (status ≡ 1) ⊎ (status ≡ 8)
  pub wrong_alone : status ≡ 1 → AreWrong given
  pub files : OfFiles given before after status
  -- a run that can begin ends as the bytes taken say, however they are cut
  pub served : (options : Options) → given ≡ Run options → CanBegin before options options.file
      → Excused status ⊎ ((taken rest : List ℕ) → before.input.told ≡ Some (taken ++ rest)
      → after.input.told ≡ Some rest → (sent : List Sent) (stop : Stop) → Pieced sessions taken sent stop
      → EndsExactly options.max_input taken stop sent (Some rest) status)

-- the units of the first of the arrivals surely fit, whichever a plain server may give
abbrev pub AllUnitsFit : Options → Outside → List Arrival → Type 0
AllUnitsFit options before arrivals =
    (first last : Standing) (some others : List Arrival) (units : List ℕ) → Begins options before first
    → arrivals ≡ some ++ others → MayServe options.seed first some units last → Fits before.output.room (length units)

-- with words that are taken, no file or one that can be loaded, an input of fewer bytes than the limit that are whole
-- pieces with whole requests, and no fault counted, the run ends with status 0, unless memory wanted
abbrev pub Completes : Given → Outside → Outside → ℕ → Type 0
Completes given before after status =
    (options : Options) (bytes : List ℕ) (arrivals : List Arrival) → given ≡ Run options
    → CanBegin before options options.file → before.input.told ≡ Some bytes
    → (brings : Brings sessions bytes arrivals Between)
    → ((number : ℕ) → number < sessions → IsCutSession number brings.sent → ⊥) → length bytes < options.max_input
    → NoHostFault options.file before after → NoReadFault before.input after.input
    → AllUnitsFit options before arrivals ⊎ (Rose before.output.faults after.output.faults → ⊥)
    → (status ≡ 0) ⊎ (status ≡ 8)

-- what the call answers: the headline, the states of its engine, and what both come to
pub record TopAnswers (given : Given) (before after : Outside) (status : ℕ) : Type 0 where
  pub headline : Concludes given before after status
  pub stepped : StepsStatus given before after status
  pub counts : CountsFaults given before after status
  pub exact : Exactly given before after status
  pub complete : Completes given before after status
