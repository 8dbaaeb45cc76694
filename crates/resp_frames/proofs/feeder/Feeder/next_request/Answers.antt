use Rattle.std.proofs.Common.{◌+◌, drop, ap, refl, ◌∙◌}
use Rattle.resp_frames.specs.Feeding.{current_words}
use Rattle.resp_frames.proofs.FeederSteps.{request_ahead, next_as_before, fewer_left}
use Rattle.resp_frames.proofs.feeder.Feeder.next_request.Goals as goal

pub returns-in-Ok-Request-clause-next : goal.returns-in-Ok-Request-clause-next
returns-in-Ok-Request-clause-next c =
    let s = c.self.inside in
    let view = c.self.view_is ∙ c.forget.ensures in
    request_ahead c.args.self.now s.gone s.at 0 s.bytes.items c.deref.result.now c.read_ahead.new.spans.items (ap (λ f. f.gone) view) (ap (λ f. f.kept) view) c.deref.ensures.value
    c.self.invariant.within c.in-Ok-Request.end refl
    (rw c.in-Ok-Request.field-0-is at c.in-Ok-Request.ensures)

pub returns-in-Ok-Rest-clause-next : goal.returns-in-Ok-Rest-clause-next
returns-in-Ok-Rest-clause-next c =
    let s = c.self.inside in
    let view = c.self.view_is ∙ c.forget.ensures in
    next_as_before (s.gone + s.at) (drop s.at s.bytes.items) (current_words s.bytes.items s.base c.read_ahead.new.spans.items s.is_ready) c.args.self.now c.next_by_steps.new.self
    c.next_by_steps.result (ap (λ f. f.gone) view) (ap (λ f. f.kept) view) c.next_by_steps.ensures

pub returns-in-Ok-Rest-clause-fewer : goal.returns-in-Ok-Rest-clause-fewer
returns-in-Ok-Rest-clause-fewer c is =
    let s = c.self.inside in
    let view = c.self.view_is ∙ c.forget.ensures in
    fewer_left c.args.self.now c.next_by_steps.new.self c.next_by_steps.result
    (next_as_before (s.gone + s.at) (drop s.at s.bytes.items) (current_words s.bytes.items s.base c.read_ahead.new.spans.items s.is_ready) c.args.self.now c.next_by_steps.new.self
    c.next_by_steps.result (ap (λ f. f.gone) view) (ap (λ f. f.kept) view) c.next_by_steps.ensures) is
