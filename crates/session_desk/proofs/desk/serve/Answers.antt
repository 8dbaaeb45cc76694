use Rattle.session_desk.specs.Kept.{all_kept, session_at}
use Rattle.session_desk.proofs.Serving.{serves_passed}
use Rattle.session_desk.proofs.desk.serve.Goals as goal

pub returns-clause-serves : goal.returns-clause-serves
returns-clause-serves g c =
    let told = g.E.DeskEngine.told in
    let v = g.E.DeskEngine.model in
    let answered = c.in_ok-answered.answered in
    serves_passed v g.E.Server.executes g.E.Server.works g.E.Server.quits g.met.E.DeskEngine.modelled c.args.moment c.args.engine.now c.answer_of.new.engine c.args.request.now answered.done.reply
    (session_at (all_kept told c.args.sessions.now.items)) (all_kept told c.answer_of.new.sessions.items) (all_kept told c.review_behind.new.sessions.items) c.args.number answered.ran answered.db
    answered.queue c.in_ok-answered.ensures.answers
    (record { nothing = c.in_ok-answered.ensures.ran; request = c.in_ok-answered.ensures.request; queued = c.in_ok-answered.ensures.queue })
    c.in_ok-review_behind.ensures.passed
