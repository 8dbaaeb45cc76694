use Rattle.std.proofs.Common.{inl, max, sym}
use Rattle.plain_model.specs.Meant.{meant}
use Rattle.session_desk.specs.Engines.{seen}
use Rattle.session_desk.specs.Kept.{Look, all_kept}
use Rattle.session_desk.specs.Watching.{AreReviewed}
use Rattle.session_desk.specs.Passing.{Passed}
use Rattle.session_desk.specs.Writing.{IsAmong, IsMeant, places_meant, emptied_meant}
use Rattle.session_desk.proofs.Lists.{ok_so}
use Rattle.session_desk.proofs.Serving.{all_weaker, among_is}
use Rattle.session_desk.proofs.desk.review_request.Goals as goal

pub returns-clause-passed : goal.returns-clause-passed
returns-clause-passed g c =
    let told = g.E.DeskEngine.told in
    let sees = seen g.E.DeskEngine.model (max (g.E.DeskEngine.model.last c.args.engine.now) c.args.moment) c.args.engine.now in
    let w = c.in_ok-written.written in
    let asked = meant c.args.request.now in
    let olds = all_kept told c.args.sessions.now.items in
    let news = all_kept told c.review_written.new.sessions.items in
    ok_so c.review_written.result
    (λ (r : AreReviewed (λ one new. Passed (IsAmong w one.db one.key) sees one new) olds news).
    all_weaker sees (λ (one : Look). IsAmong w one.db one.key) (λ (one : Look). IsMeant c.args.db c.args.request.now one.db one.key)
    (λ one m. inl (among_is (places_meant c.args.db asked) w.places.items (emptied_meant asked) w.emptied c.args.db w.selected one.db one.key
    (sym c.in_ok-written.ensures.places) (sym c.in_ok-written.ensures.emptied) (sym c.in_ok-written.ensures.selected) m)) olds news r)
    c.review_written.ensures.passed
