-- How a run begins.
use Rattle.std.specs.Prelude.{◌≡◌, ◌⊎◌, ℕ, ◌≤◌, List, length, Option, Some, None, Bool, true, false}
use Rattle.outside.specs.Clocks.{Answers}
use Rattle.outside.specs.Counts.{Rose}
use Rattle.outside.specs.Files.{Files, HostSeen, IsListed}
use Rattle.plain_world.specs.Worlds.{World, new_world}
use Rattle.rdb_grammar.specs.Files.{IsFile}
use Rattle.rdb_reader.specs.Taken.{TakesFile}
use Rattle.rdb_reader.specs.Named.{IsFileOf, IsLongFile, RefusesFile}
use Rattle.serving.specs.Timed.{ReadsMoment}
use Rattle.program_top.specs.Given.{Options, Outside}
use Rattle.program_top.specs.declared.ending.Ending.{Ending}
use Rattle.program_top.specs.declared.ending.Ending.TheVariants as endings

-- where a run stands: its world, the last moment that was used, and the clock's answers that follow
pub record Standing : Type 0 where
  pub world : World
  pub last : ℕ
  pub clock : Option Answers

-- the host's file of this name has at most so many bytes, and is one of the format that means this world at the moment
pub record IsLoaded (files : Files) (limit : ℕ) (name : List ℕ) (moment : ℕ) (world : World) : Type 0 where
  pub bytes : List ℕ
  pub is : IsFileOf files name bytes
  pub few : length bytes ≤ limit
  pub file : IsFile bytes moment world

-- a run begins with this world: that without a key, or the file's
abbrev pub BeginsWith : Files → ℕ → Option (List ℕ) → ℕ → World → Type 0
BeginsWith files limit None moment world = world ≡ new_world
BeginsWith files limit (Some name) moment world = IsLoaded files limit name moment world

-- a run with these options begins here, at the moment that the clock answers first
pub record Begins (options : Options) (before : Outside) (first : Standing) : Type 0 where
  pub moment : ReadsMoment before.clock first.clock first.last
  pub world : BeginsWith before.host.files options.max_input options.file first.last first.world

-- why the file of a name is not loaded at a moment: a fault of the host, the file's first fault, more bytes than the
-- limit, or want of memory
abbrev pub NotLoaded : Files → ℕ → List ℕ → ℕ → Ending → Type 0
NotLoaded files limit name moment endings.Host = Unit {0}
NotLoaded files limit name moment (endings.Refused what at) = RefusesFile files name limit moment what at
NotLoaded files limit name moment endings.Limit = IsLongFile files name limit
NotLoaded files limit name moment endings.Memory = Unit {0}
NotLoaded files limit name moment endings.Whole = ⊥
NotLoaded files limit name moment endings.Quit = ⊥
NotLoaded files limit name moment endings.Usage = ⊥
NotLoaded files limit name moment (endings.Protocol rule at) = ⊥
NotLoaded files limit name moment endings.Cut = ⊥
NotLoaded files limit name moment endings.ReadFault = ⊥
NotLoaded files limit name moment endings.WriteFault = ⊥

-- why a run doesn't begin: want of memory, or what else keeps its file from being loaded
abbrev pub NotBegun : Files → ℕ → Option (List ℕ) → ℕ → Ending → Type 0
NotBegun files limit None moment ending = ending ≡ endings.Memory
NotBegun files limit (Some name) moment ending = NotLoaded files limit name moment ending

-- the host's count of faults rose exactly where it failed, as it doesn't where that is sure
abbrev pub CountsHost : HostSeen → HostSeen → List ℕ → Bool → Type 0
CountsHost before after name true =
    Rose before.reading.faults after.reading.faults × ((before.reading.sure ≡ true) × IsListed before.files name → ⊥)
CountsHost before after name false = after.reading.faults ≡ before.reading.faults

-- A host is left alone where no file is named. Of one that is, one byte more than the limit is taken at most, and a fault
-- of the host comes before that one; or memory wanted before it was begun.
abbrev pub UsesHost : ℕ → Option (List ℕ) → HostSeen → HostSeen → Bool → Type 0
UsesHost limit None before after fails = (after ≡ before) × (fails ≡ false)
UsesHost limit (Some name) before after fails = CountsHost before after name fails
    × (TakesFile before.files name limit after fails ⊎ ((after ≡ before) × (fails ≡ false)))

-- whether a run ends by a fault of the host
abbrev pub is_host : Ending → Bool
is_host endings.Host = true
is_host endings.Whole = false
is_host endings.Quit = false
is_host endings.Usage = false
is_host (endings.Protocol rule at) = false
is_host endings.Cut = false
is_host endings.ReadFault = false
is_host endings.WriteFault = false
is_host (endings.Refused what at) = false
is_host endings.Memory = false
is_host endings.Limit = false
