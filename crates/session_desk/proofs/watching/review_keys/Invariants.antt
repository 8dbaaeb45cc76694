use Rattle.std.proofs.Common.{◌≡◌, take}
use Rattle.std.specs.List.{Contains}
use Rattle.written_keys.specs.Written.{at}
use Rattle.session_desk.specs.Engines.{seen}
use Rattle.session_desk.specs.Kept.{looks, kept_of, watching}
use Rattle.session_desk.specs.Watching.{IsWithin}
use Rattle.session_desk.specs.Passing.{EachPassed}
use Rattle.session_desk.proofs.watching.review_keys.Given as goal

abbrev pub invariant-loop-place : goal.invariant-loop-place
invariant-loop-place g l =
    let told = g.E.DeskEngine.told in
    record {
      passed : EachPassed (λ k one. Contains (take l.place-index l.places) (at one.db one.key)) (seen g.E.DeskEngine.model l.moment l.engine)
          (looks told l.initial.session.watched.items) (looks told l.session.watched.items);
      kept : kept_of told l.session ≡ watching (kept_of told l.initial.session) (looks told l.session.watched.items);
      within : IsWithin l.session;
    }
