-- The exit statuses, and the lines of the notes.
use Rattle.std.specs.Prelude.{ℕ, List, ◌++◌, codes}
use Rattle.program_top.specs.Notes.{line_feed}
use Rattle.program_top.specs.Notes as notes
use Rattle.program_top.specs.Statuses as statuses
use Rattle.sessions.specs.declared.ending.SessionsEnded.{SessionsEnded}
use Rattle.sessions.specs.declared.ending.SessionsEnded.TheVariants as served
use Rattle.sessions_top.specs.declared.ending.SessionsEnding.{SessionsEnding}
use Rattle.sessions_top.specs.declared.ending.SessionsEnding.TheVariants as endings

-- those of a run of one stream, and 11
abbrev pub status_of : SessionsEnding → ℕ
status_of (endings.Run ending) = statuses.status_of ending
status_of endings.UnknownSession = 11

abbrev pub line_of : SessionsEnding → List ℕ
line_of (endings.Run ending) = notes.line_of ending
line_of endings.UnknownSession = codes "redis-core: unknown session" ++ line_feed

-- the ending of a run whose sessions were served to this end
abbrev pub ending_of : SessionsEnded → SessionsEnding
ending_of (served.Plain ended) = endings.Run (statuses.ending_of ended)
ending_of served.Unknown = endings.UnknownSession
