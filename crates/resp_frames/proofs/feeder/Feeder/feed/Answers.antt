use Rattle.std.proofs.Common.{◌≡◌, ◌+◌, ◌≤◌, ◌^◌, length, drop, ap, sym, subst, ◌∙◌}
use Rattle.resp_frames.proofs.Feeds.{feeder_fed, appended, appended_fits}
use Rattle.resp_frames.proofs.FeederSteps.{lends_none}
use Rattle.resp_frames.proofs.feeder.Feeder.feed.Goals as goal

pub invariant_of-self : goal.invariant_of-self
invariant_of-self c =
    let s = c.self.inside in
    let view = c.self.view_is ∙ c.shed.ensures ∙ c.forget.ensures in
    let gone : s.gone + s.at ≡ c.args.self.now.gone = ap (λ f. f.gone) view in
    let kept : drop s.at s.bytes.items ≡ c.args.self.now.kept = ap (λ f. f.kept) view in
    let room : s.gone + s.at + length (drop s.at s.bytes.items) + length c.args.piece.now ≤ 2 ^ 62 =
    subst (λ g. g + length (drop s.at s.bytes.items) + length c.args.piece.now ≤ 2 ^ 62) (sym gone)
    (subst (λ k. c.args.self.now.gone + length k + length c.args.piece.now ≤ 2 ^ 62) (sym kept) c.requires) in
    feeder_fed s.gone s.base s.at s.bytes.items _ c.extend_from_slice.new.self.items s.spans.items s.progress s.is_ready
    (lends_none s.bytes.items s.base s.spans.items s.is_ready (ap (λ f. f.current) view)) (appended _ s.bytes.items c.args.piece.now _ c.extend_from_slice.ensures.items)
    (appended_fits _ s.gone s.at (2 ^ 62) s.bytes.items c.args.piece.now _ c.extend_from_slice.ensures.items c.self.invariant.within room) c.self.invariant
