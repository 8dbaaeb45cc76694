use Rattle.std.proofs.Common.{◌++◌, [], ◌∷◌, sym, subst}
use Rattle.request_queue.specs.Queued.{AreQueued}
use Rattle.session_desk.proofs.Rooming.{one_more}
use Rattle.session_desk.proofs.answering.queue_behind.Goals as goal

pub returns-clause-queued : goal.returns-clause-queued
returns-clause-queued c =
    let asked = c.requires.0 in
    let words = c.args.request.now in
    (asked ++ words ∷ [], subst (λ kept. AreQueued kept (asked ++ words ∷ [])) (sym c.in_ok-push.ensures.ok) (one_more c.args.queue asked words c.requires.1 c.len.ensures.request))
