use Rattle.std.proofs.Common.{ap, ◌∙◌}
use Rattle.resp_frames.proofs.FeederSteps.{lent_stands, request_kept, open_kept, request_out, none_out, fault_out, lends_none}
use Rattle.resp_frames.proofs.feeder.Feeder.next_by_steps.Goals as goal

pub returns-in-Request : goal.returns-in-Request
returns-in-Request c =
    let s = c.self.inside in
    request_out c.args.self.now s.gone s.at c.in-Ok.passed s.bytes.items c.deref.result.now c.next_found.new.spans.items
    (ap (λ f. f.gone) c.self.view_is) (ap (λ f. f.kept) c.self.view_is) c.deref.ensures.value c.self.invariant.within c.in-Request.end
    (rw c.in-Request.is at c.in-Ok.ensures)

pub returns-in-Broken : goal.returns-in-Broken
returns-in-Broken c =
    let s = c.self.inside in
    fault_out c.args.self.now s.gone s.at c.in-Ok.passed s.bytes.items c.deref.result.now c.next_found.new.spans.items
    (ap (λ f. f.gone) c.self.view_is) (ap (λ f. f.kept) c.self.view_is) c.deref.ensures.value c.self.invariant.within _ _ s.is_ready
    (lends_none s.bytes.items s.base s.spans.items s.is_ready (ap (λ f. f.current) c.self.view_is ∙ c.requires)) c.in-Broken.rule c.in-Broken.place
    (rw c.in-Broken.is at c.in-Ok.ensures)

pub returns-in-Open : goal.returns-in-Open
returns-in-Open c =
    let s = c.self.inside in
    none_out c.args.self.now s.gone s.at c.in-Ok.passed s.bytes.items c.deref.result.now c.next_found.new.spans.items
    (ap (λ f. f.gone) c.self.view_is) (ap (λ f. f.kept) c.self.view_is) c.deref.ensures.value c.self.invariant.within _ _ s.is_ready
    (lends_none s.bytes.items s.base s.spans.items s.is_ready (ap (λ f. f.current) c.self.view_is ∙ c.requires)) c.in-Open.progress
    (rw c.in-Open.is at c.in-Ok.ensures)

pub next_found-requires : goal.next_found-requires
next_found-requires c =
    let s = c.self.inside in
    lent_stands s.bytes.items c.deref.result.now s.base s.at s.spans.items s.progress s.is_ready c.deref.ensures.value
    (lends_none s.bytes.items s.base s.spans.items s.is_ready (ap (λ f. f.current) c.self.view_is ∙ c.requires)) c.self.invariant.state

pub invariant_of-self-in-Request : goal.invariant_of-self-in-Request
invariant_of-self-in-Request c =
    let s = c.self.inside in
    request_kept s.gone s.at c.in-Ok.passed s.bytes.items c.deref.result.now c.next_found.new.spans.items c.deref.ensures.value c.self.invariant.within c.self.invariant.fits
    c.in-Request.end s.progress (rw c.in-Request.is at c.in-Ok.ensures)

pub invariant_of-self-in-Open : goal.invariant_of-self-in-Open
invariant_of-self-in-Open c =
    let s = c.self.inside in
    open_kept s.gone s.at c.in-Ok.passed s.bytes.items c.deref.result.now c.next_found.new.spans.items c.deref.ensures.value c.self.invariant.within c.self.invariant.fits
    s.is_ready c.in-Open.progress (lends_none s.bytes.items s.base s.spans.items s.is_ready (ap (λ f. f.current) c.self.view_is ∙ c.requires)) (rw c.in-Open.is at c.in-Ok.ensures)
