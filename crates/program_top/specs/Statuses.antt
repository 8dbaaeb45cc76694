-- The exit statuses.
use Rattle.std.specs.Prelude.{ℕ}
use Rattle.serving.specs.declared.ending.Ended.{Ended}
use Rattle.serving.specs.declared.ending.Ended.TheVariants as served
use Rattle.program_top.specs.declared.ending.Ending.{Ending}
use Rattle.program_top.specs.declared.ending.Ending.TheVariants as endings

abbrev pub status_of : Ending → ℕ
status_of endings.Whole = 0
status_of endings.Quit = 0
status_of endings.Usage = 1
status_of (endings.Protocol rule at) = 2
status_of endings.Cut = 3
status_of endings.ReadFault = 4
status_of endings.WriteFault = 5
status_of endings.Host = 6
status_of (endings.Refused what at) = 7
status_of endings.Memory = 8
status_of endings.Limit = 9

-- the ending of a run that was served to this end
abbrev pub ending_of : Ended → Ending
ending_of served.Whole = endings.Whole
ending_of served.Quit = endings.Quit
ending_of (served.Protocol rule at) = endings.Protocol rule at
ending_of served.Cut = endings.Cut
ending_of served.ReadFault = endings.ReadFault
ending_of served.WriteFault = endings.WriteFault
ending_of served.Memory = endings.Memory
ending_of served.Limit = endings.Limit
