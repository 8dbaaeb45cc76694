-- What the start of a run answers: an engine, or how the run ends.
use Rattle.std.specs.Prelude.{◌≡◌, ℕ, List, Result, Ok, Err, Bool, false}
use Rattle.outside.specs.Files.{Files}
use Rattle.plain_world.specs.Worlds.{World}
use Rattle.rdb_reader.specs.declared.fault.LoadFault.{LoadFault}
use Rattle.rdb_reader.specs.declared.fault.LoadFault.TheVariants as faults
use Rattle.program_top.specs.Engines.{Engine, world_of, IsFirst}
use Rattle.program_top.specs.Given.{Options}
use Rattle.program_top.specs.Starting.{IsLoaded, BeginsWith, NotLoaded, NotBegun, is_host}
use Rattle.program_top.specs.declared.ending.Ending.{Ending}
use Rattle.program_top.specs.declared.ending.Ending.TheVariants as endings

-- the ending by a fault of the loading
abbrev pub ending_by : LoadFault → Ending
ending_by (faults.Refused what at) = endings.Refused what at
ending_by faults.Host = endings.Host
ending_by faults.Limit = endings.Limit
ending_by faults.Memory = endings.Memory

-- what `load_file` answers, at this moment
abbrev pub LoadsNamed : Files → ℕ → List ℕ → ℕ → World → Result (Unit {0}) Ending → Type 0
LoadsNamed files limit name moment world (Ok x) = IsLoaded files limit name moment world
LoadsNamed files limit name moment world (Err ending) = NotLoaded files limit name moment ending

-- what `start` answers, at this moment: an engine that begins the run, with the options' seed and limits
abbrev pub Starts : Files → Options → ℕ → Result Engine Ending → Type 0
Starts files options moment (Ok engine) =
    BeginsWith files options.max_input options.file moment (world_of engine)
    × IsFirst options.seed options.limits engine × (engine.last ≡ moment)
Starts files options moment (Err ending) = NotBegun files options.max_input options.file moment ending

-- whether a run is ended by a fault of the host before it begins
abbrev pub host_failed : {A : Type 0} → Result A Ending → Bool
host_failed (Ok x) = false
host_failed (Err ending) = is_host ending
