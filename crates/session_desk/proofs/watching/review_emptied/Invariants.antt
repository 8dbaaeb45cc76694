use Rattle.std.proofs.Common.{◌≡◌, ◌<◌}
use Rattle.written_keys.specs.Written.{IsEmptied}
use Rattle.session_desk.specs.Engines.{seen}
use Rattle.session_desk.specs.Kept.{looks}
use Rattle.session_desk.specs.Watching.{AreWithin, watched_keys}
use Rattle.session_desk.specs.Passing.{EachPassed}
use Rattle.session_desk.proofs.watching.review_emptied.Given as goal

abbrev pub invariant-loop-index : goal.invariant-loop-index
invariant-loop-index g l =
    let told = g.E.DeskEngine.told in
    record {
      passed : EachPassed (λ k one. (k < l.index) × IsEmptied l.emptied l.selected one.db) (seen g.E.DeskEngine.model l.moment l.engine) (looks told l.initial.watched.items) (looks told l.watched.items);
      within : AreWithin l.watched.items;
      keys : watched_keys l.watched.items ≡ watched_keys l.initial.watched.items;
    }
