use Rattle.std.proofs.Common.{◌≡◌, take}
use Rattle.std.specs.List.{Contains}
use Rattle.session_desk.specs.Engines.{seen}
use Rattle.session_desk.specs.Kept.{looks}
use Rattle.session_desk.specs.Watching.{AreWithin, watched_keys}
use Rattle.session_desk.specs.Passing.{IsOf, EachPassed}
use Rattle.session_desk.proofs.watching.review_marked.Given as goal

abbrev pub invariant-loop-place : goal.invariant-loop-place
invariant-loop-place g l =
    let told = g.E.DeskEngine.told in
    record {
      passed : EachPassed (λ k one. Contains (take l.place-index l.places) k × IsOf l.db one.db) (seen g.E.DeskEngine.model l.moment l.engine) (looks told l.initial.watched.items) (looks told l.watched.items);
      within : AreWithin l.watched.items;
      keys : watched_keys l.watched.items ≡ watched_keys l.initial.watched.items;
    }
