use Rattle.std.proofs.Common.{◌≡◌, false, max, OnOk, sym, subst, rules}
use Rattle.session_desk.specs.Engines.{seen}
use Rattle.session_desk.specs.Kept.{all_kept}
use Rattle.session_desk.specs.Watching.{AreReviewed}
use Rattle.session_desk.specs.declared.answering.Ran.{Ran}
use Rattle.session_desk.specs.Passing.{Passed}
use Rattle.session_desk.specs.Writing.{MayHaveWritten}
use Rattle.session_desk.proofs.Serving.{reviewed_none}
use Rattle.session_desk.proofs.desk.review_behind.Goals as goal

pub returns-then-not-may_watch-clause-passed : goal.returns-then-not-may_watch-clause-passed
returns-then-not-may_watch-clause-passed g c =
    let off : c.args.may_watch.now ≡ false = search rules in
    let a = c.args.answered.now in
    reviewed_none g.E.DeskEngine.told (λ one new. Passed (MayHaveWritten a.ran a.db c.args.request.now a.queue one.db one.key)
    (seen g.E.DeskEngine.model (max (g.E.DeskEngine.model.last c.args.engine.now) c.args.moment) c.args.engine.now) one new)
    c.args.sessions.now.items (c.requires.watches off)

pub returns-in-Request-clause-passed : goal.returns-in-Request-clause-passed
returns-in-Request-clause-passed g c =
    let told = g.E.DeskEngine.told in
    let sees = seen g.E.DeskEngine.model (max (g.E.DeskEngine.model.last c.args.engine.now) c.args.moment) c.args.engine.now in
    let a = c.args.answered.now in
    let olds = all_kept told c.args.sessions.now.items in
    let news = all_kept told c.review_request.new.sessions.items in
    subst (λ (r : Ran). OnOk c.review_request.result (AreReviewed (λ one new. Passed (MayHaveWritten r a.db c.args.request.now a.queue one.db one.key) sees one new) olds news)) (sym c.in-Request.is)
    c.review_request.ensures.passed

pub returns-in-Queue-clause-passed : goal.returns-in-Queue-clause-passed
returns-in-Queue-clause-passed g c =
    let told = g.E.DeskEngine.told in
    let sees = seen g.E.DeskEngine.model (max (g.E.DeskEngine.model.last c.args.engine.now) c.args.moment) c.args.engine.now in
    let a = c.args.answered.now in
    let olds = all_kept told c.args.sessions.now.items in
    let news = all_kept told c.review_queue.new.sessions.items in
    subst (λ (r : Ran). OnOk c.review_queue.result (AreReviewed (λ one new. Passed (MayHaveWritten r a.db c.args.request.now a.queue one.db one.key) sees one new) olds news)) (sym c.in-Queue.is)
    c.review_queue.ensures.passed
