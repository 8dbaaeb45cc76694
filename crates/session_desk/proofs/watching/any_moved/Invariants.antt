use Rattle.std.proofs.Common.{take}
use Rattle.session_desk.specs.Engines.{seen}
use Rattle.session_desk.specs.Kept.{looks}
use Rattle.session_desk.specs.Watching.{IsStill}
use Rattle.session_desk.proofs.watching.any_moved.Given as goal

abbrev pub invariant-loop-watch : goal.invariant-loop-watch
invariant-loop-watch g l = IsStill (seen g.E.DeskEngine.model l.moment l.engine) (looks g.E.DeskEngine.told (take l.watch-index l.watched))
