use Rattle.std.proofs.Common.{take}
use Rattle.std.specs.List.{All}
use Rattle.session_desk.specs.Watching.{IsSilent}
use Rattle.session_desk.proofs.desk.any_watches.Given as goal

abbrev pub invariant-loop-session : goal.invariant-loop-session
invariant-loop-session g l = All IsSilent (take l.session-index l.sessions)
