use Rattle.std.proofs.Common.{◌≡◌, sym, ap, ◌∙◌}
use Rattle.std.specs.Prelude.{slice_get, map as list_map}
use Rattle.stream_groups.proofs.entries.Entries.after.Goals.{in-None, in-Some}
use Rattle.stream_groups.proofs.Listing.{seen_as, kept_later, later_seen, from_all_in_listing, from_after}
use Rattle.stream_groups.proofs.entries.Entries.after.Goals as goal

pub returns-in-None-next : goal.returns-in-None-next
returns-in-None-next c =
    let kept : c.range.result ≡ kept_later c.args.above c.self.inside.entries.entries = c.range.ensures.between tt ∙ (elim c.match-above.branch [
      | in-None w ↦ from_all_in_listing c.match-above.start c.args.above c.self.inside.entries.entries w.start-is w.in-None.is
      | in-Some w ↦ from_after c.match-above.start c.args.above w.in-Some.id c.self.inside.entries.entries w.start-is w.in-Some.is
    ]) in
    ap (λ xs. slice_get (list_map seen_as xs) 0) (sym c.in-None-next.ensures.steps.0 ∙ kept)
    ∙ ap (λ xs. slice_get xs 0) (sym (later_seen c.args.above c.self.inside.entries.entries c.args.self.now c.self.invariant c.self.view_is))

pub returns-in-Some-next : goal.returns-in-Some-next
returns-in-Some-next c =
    let kept : c.range.result ≡ kept_later c.args.above c.self.inside.entries.entries = c.range.ensures.between tt ∙ (elim c.match-above.branch [
      | in-None w ↦ from_all_in_listing c.match-above.start c.args.above c.self.inside.entries.entries w.start-is w.in-None.is
      | in-Some w ↦ from_after c.match-above.start c.args.above w.in-Some.id c.self.inside.entries.entries w.start-is w.in-Some.is
    ]) in
    ap (λ xs. slice_get (list_map seen_as xs) 0) (sym c.in-Some-next.ensures.steps ∙ kept)
    ∙ ap (λ xs. slice_get xs 0) (sym (later_seen c.args.above c.self.inside.entries.entries c.args.self.now c.self.invariant c.self.view_is))
