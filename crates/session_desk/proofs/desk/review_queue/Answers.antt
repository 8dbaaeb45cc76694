use Rattle.std.proofs.Common.{max}
use Rattle.session_desk.specs.Engines.{seen}
use Rattle.session_desk.specs.Kept.{Look, all_kept}
use Rattle.session_desk.specs.Watching.{AreReviewed}
use Rattle.session_desk.specs.Passing.{Passed}
use Rattle.session_desk.specs.Writing.{IsAmong, SomeWrite}
use Rattle.session_desk.proofs.Lists.{ok_so}
use Rattle.session_desk.proofs.Serving.{all_weaker}
use Rattle.session_desk.proofs.desk.review_queue.Goals as goal

pub returns-clause-passed : goal.returns-clause-passed
returns-clause-passed g c =
    let told = g.E.DeskEngine.told in
    let sees = seen g.E.DeskEngine.model (max (g.E.DeskEngine.model.last c.args.engine.now) c.args.moment) c.args.engine.now in
    let w = c.in_ok-written.written in
    let olds = all_kept told c.args.sessions.now.items in
    let news = all_kept told c.review_written.new.sessions.items in
    ok_so c.review_written.result
    (λ (r : AreReviewed (λ one new. Passed (IsAmong w one.db one.key) sees one new) olds news).
    all_weaker sees (λ (one : Look). IsAmong w one.db one.key) (λ (one : Look). SomeWrite c.args.queue.now one.db one.key) (λ one m. c.in_ok-written.ensures one.db one.key m) olds news r)
    c.review_written.ensures.passed
