-- What the top call answers: from words, a file, a clock and bytes in to bytes out, a status and a line.
use Rattle.std.specs.Prelude.{◌≡◌, ℕ, ◌≤◌, ◌<◌, List, [], ◌∷◌, ◌⊎◌, length, Option, Some, None, ⊤, true}
use Rattle.outside.specs.Clocks.{Answers, Tells}
use Rattle.outside.specs.Counts.{Rose}
use Rattle.outside.specs.Files.{Files, IsListed}
use Rattle.outside.specs.Streams.{Fits}
use Rattle.plain_world.specs.Worlds.{World}
use Rattle.plain_world.specs.Words.{Words}
use Rattle.plain_world.specs.declared.reply.Part.{Part}
use Rattle.plain_model.specs.Coverage.{IsCovered}
use Rattle.plain_model.specs.Runs.{run, Call, Turn, calls_of, replies_of, moment_after}
use Rattle.rdb_grammar.specs.Files.{IsFile, IsFault}
use Rattle.rdb_grammar.specs.declared.fault.LoadKind.{LoadKind}
use Rattle.rdb_reader.specs.Named.{RefusesFile}
use Rattle.rdb_reader.specs.Taken.{TakesFile}
use Rattle.plain_model.specs.Meant.{asks_to_quit}
use Rattle.resp_frames.specs.Ends.{End, Frames}
use Rattle.serving.specs.declared.ending.Ended.{Ended}
use Rattle.serving.specs.Timed.{ReadsMoment}
use Rattle.serving.specs.Exactly.{ServesExactly, EndsWell, NoReadFault, AllFit}
use Rattle.program_top.specs.Generating.{may_generate}
use Rattle.program_top.specs.Given.{Options, Given, Wrong, Run, Generate, Outside}
use Rattle.program_top.specs.Notes.{Notes, refused_line, line_of}
use Rattle.program_top.specs.Running.{RunsWords}
use Rattle.program_top.specs.Starting.{Standing, Begins}
use Rattle.program_top.specs.Statuses.{status_of, ending_of}
use Rattle.program_top.specs.declared.ending.Ending.{Ending}

-- The clock is read once for each request, whose moment is the greatest of the answers so far: from a last moment and
-- the answers that follow to those after the requests.
abbrev pub Clocked : ℕ → Option Answers → List Words → List Call → ℕ → Option Answers → Type 0
Clocked last clock [] [] last' clock' = (last' ≡ last) × (clock' ≡ clock)
Clocked last clock (words ∷ asked) (call ∷ calls) last' clock' =
    (now : ℕ) × (mid : Option Answers) × Tells clock now mid × (call.words ≡ words)
    × (call.moment ≡ moment_after last now) × Clocked call.moment mid asked calls last' clock'
Clocked last clock [] (call ∷ calls) last' clock' = ⊥
Clocked last clock (words ∷ asked) [] last' clock' = ⊥

-- From here on, a plain map may answer the requests by these replies, and each complete scan among them covers all that
-- stayed throughout it.
pub record MayAnswer (seed : ℕ) (first : Standing) (asked : List Words) (replies : List (List Part)) (last : Standing)
    : Type 0 where
  pub turns : List Turn
  pub clocked : Clocked first.last first.clock asked (calls_of turns) last.last last.clock
  pub are : replies_of turns ≡ replies
  pub ran : run seed first.world turns last.world
  pub covered : IsCovered turns

-- the same of a run with these options
abbrev pub may_answer : Options → Standing → List Words → List (List Part) → Standing → Type 0
may_answer options = MayAnswer options.seed

-- the clock's answers that follow
abbrev pub standing_clock : Standing → Option Answers
standing_clock standing = standing.clock

-- the headline: a run, of whose last state this comes, with its line in the notes, where the status alone is answered
pub record Concludes (Closes : Standing → Ended → Type 0) (given : Given) (before after : Outside) (status : ℕ)
    : Type 0 where
  pub ending : Ending
  pub is : status ≡ status_of ending
  pub run : RunsWords Begins may_answer may_answer standing_clock Closes may_generate given before after ending
  pub line : Notes before.notes after.notes (line_of ending)

-- a count rose where a status came, and stayed where another did
pub record RoseAt (which status before after : ℕ) : Type 0 where
  pub came : status ≡ which → Rose before after
  pub other : (status ≡ which → ⊥) → after ≡ before

-- the host has no name to look at
abbrev pub NamesNoFile : Given → Type 0
NamesNoFile Wrong = ⊤
NamesNoFile (Run options) = options.file ≡ None
NamesNoFile (Generate n options) = ⊤

-- A fault of the host, the input or the output is counted exactly where it ends the run, and none comes that surely
-- doesn't. Where no file is named the host stays as it was.
pub record CountsFaults (given : Given) (before after : Outside) (status : ℕ) : Type 0 where
  pub read : RoseAt 4 status before.input.faults after.input.faults
  pub write : RoseAt 5 status before.output.faults after.output.faults
  pub host : RoseAt 6 status before.host.reading.faults after.host.reading.faults
  pub sure_read : before.input.sure ≡ true → status ≡ 4 → ⊥
  pub sure_host : (options : Options) (name : List ℕ) → given ≡ Run options → options.file ≡ Some name
      → before.host.reading.sure ≡ true → IsListed before.host.files name → status ≡ 6 → ⊥
  pub no_file : NamesNoFile given → after.host ≡ before.host

-- the line of an ending of this status is put, or a front of it where the notes failed
pub record NotesStatus (before after : Outside) (status : ℕ) : Type 0 where
  pub ending : Ending
  pub is : status ≡ status_of ending
  pub line : Notes before.notes after.notes (line_of ending)

-- the host tells that the name has this file
abbrev pub IsTold : Files → List ℕ → List ℕ → Type 0
IsTold None name bytes = ⊥
IsTold (Some files) name bytes = files name ≡ Some bytes

-- the host tells that the name has no file
abbrev pub IsAbsent : Files → List ℕ → Type 0
IsAbsent None name = ⊥
IsAbsent (Some files) name = files name ≡ None

-- this holds at each moment that the clock may answer first
abbrev pub AtFirst : Option Answers → (ℕ → Type 0) → Type 0
AtFirst clock P = (moment : ℕ) (after : Option Answers) → ReadsMoment clock after moment → P moment

-- the file of a name is told, has at most so many bytes, and is one of the format
pub record IsLoadable (before : Outside) (limit : ℕ) (name : List ℕ) : Type 0 where
  pub bytes : List ℕ
  pub is : IsTold before.host.files name bytes
  pub few : length bytes ≤ limit
  pub file : AtFirst before.clock (λ moment. (world : World) × IsFile bytes moment world)

-- a run can begin: no file is named, or one that can be loaded
abbrev pub CanBegin : Outside → Options → Option (List ℕ) → Type 0
CanBegin before options None = ⊤
CanBegin before options (Some name) = IsLoadable before options.max_input name

-- a fault of the host, or want of memory
abbrev pub Excused : ℕ → Type 0
Excused status = (status ≡ 6) ⊎ (status ≡ 8)

-- the host failed at the file of a name, before one byte more than the limit was taken
abbrev pub HostStops : Outside → Outside → ℕ → List ℕ → ℕ → Type 0
HostStops before after limit name status = (status ≡ 6) × TakesFile before.host.files name limit after.host true

-- the file of the run is refused by this first fault, and its line says so
pub record IsRefused (given : Given) (before after : Outside) : Type 0 where
  pub options : Options
  pub name : List ℕ
  pub given_is : given ≡ Run options
  pub file_is : options.file ≡ Some name
  pub what : LoadKind
  pub at : ℕ
  pub moment : ℕ
  pub clock : Option Answers
  pub read : ReadsMoment before.clock clock moment
  pub refused : RefusesFile before.host.files name options.max_input moment what at
  pub line : Notes before.notes after.notes (refused_line what at)

-- what a file comes to that can't be loaded, unless the host failed or memory wanted
pub record OfFiles (given : Given) (before after : Outside) (status : ℕ) : Type 0 where
  -- a file of at most the limit's bytes with this first fault
  pub refused : (options : Options) (name bytes : List ℕ) (what : LoadKind) (at : ℕ) → given ≡ Run options
      → options.file ≡ Some name → IsTold before.host.files name bytes → length bytes ≤ options.max_input
      → AtFirst before.clock (λ moment. IsFault bytes moment what at)
      → Excused status ⊎ ((status ≡ 7) × Notes before.notes after.notes (refused_line what at))
  pub refused_alone : status ≡ 7 → IsRefused given before after
  -- a file of more bytes than the limit
  pub long : (options : Options) (name bytes : List ℕ) → given ≡ Run options → options.file ≡ Some name
      → IsTold before.host.files name bytes → options.max_input < length bytes
      → (status ≡ 9) ⊎ ((status ≡ 8) ⊎ HostStops before after options.max_input name status)
  -- a name that the host has no file of
  pub absent : (options : Options) (name : List ℕ) → given ≡ Run options → options.file ≡ Some name
      → IsAbsent before.host.files name → Excused status

-- exactly when each status comes, unless the host failed or memory wanted
pub record Exactly (given : Given) (before after : Outside) (status : ℕ) : Type 0 where
  pub wrong : given ≡ Wrong → (status ≡ 1) ⊎ (status ≡ 8)
  pub wrong_alone : status ≡ 1 → given ≡ Wrong
  pub files : OfFiles given before after status
  -- generated commands end, unless the output failed
  pub generated : (n : ℕ) (options : Options) → given ≡ Generate n options
      → (status ≡ 0) ⊎ ((status ≡ 5) ⊎ (status ≡ 8))
  -- a run that can begin ends as its input does
  pub served : (options : Options) → given ≡ Run options → CanBegin before options options.file
      → Excused status ⊎ ((ended : Ended) × (status ≡ status_of (ending_of ended))
      × ServesExactly asks_to_quit options.max_input before.input after.input ended)

-- no fault of the host, where a file is named: none comes that surely doesn't, or none was counted
abbrev pub NoHostFault : Option (List ℕ) → Outside → Outside → Type 0
NoHostFault None before after = ⊤
NoHostFault (Some name) before after =
    (before.host.reading.sure ≡ true) ⊎ (Rose before.host.reading.faults after.host.reading.faults → ⊥)

-- no fault of the output: whatever a plain map may answer up to the first request that ends the run fits, or none was
-- counted
abbrev pub NoOutputFault : Options → Outside → Outside → List Words → Type 0
NoOutputFault options before after asked =
    ((first : Standing) → Begins options before first
    → AllFit (may_answer options first) asks_to_quit asked before.output.room)
    ⊎ (Rose before.output.faults after.output.faults → ⊥)

-- with words that are taken, no file or one that can be loaded, an input of fewer bytes than the limit that ends after
-- a whole request or holds a QUIT before any fault, and no fault counted, the run ends with status 0, unless memory
-- wanted
abbrev pub CompletesServed : Given → Outside → Outside → ℕ → Type 0
CompletesServed given before after status =
    (options : Options) (bytes : List ℕ) (asked : List Words) (end : End) → given ≡ Run options
    → CanBegin before options options.file → before.input.told ≡ Some bytes → Frames bytes asked end
    → EndsWell asks_to_quit asked end → length bytes < options.max_input
    → NoHostFault options.file before after → NoReadFault before.input after.input → NoOutputFault options before after asked
    → (status ≡ 0) ⊎ (status ≡ 8)

-- no fault of the output: the lines of the generated commands fit, or none was counted
abbrev pub NoLinesFault : Options → ℕ → Outside → Outside → Type 0
NoLinesFault options n before after =
    ((lines : List ℕ) → may_generate options n before.pacers lines → Fits before.output.room (length lines))
    ⊎ (Rose before.output.faults after.output.faults → ⊥)

-- generated commands end with status 0, unless memory wanted, where no fault of the output was counted
abbrev pub CompletesGenerated : Given → Outside → Outside → ℕ → Type 0
CompletesGenerated given before after status =
    (n : ℕ) (options : Options) → given ≡ Generate n options → NoLinesFault options n before after
    → (status ≡ 0) ⊎ (status ≡ 8)

-- when a run surely ends with status 0, or 8
pub record Completes (given : Given) (before after : Outside) (status : ℕ) : Type 0 where
  pub served : CompletesServed given before after status
  pub generated : CompletesGenerated given before after status
