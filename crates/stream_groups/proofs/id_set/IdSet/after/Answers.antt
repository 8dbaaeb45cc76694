use Rattle.std.proofs.Common.{◌≡◌, sym, ap, ◌∙◌}
use Rattle.std.specs.Prelude.{slice_get, map as list_map}
use Rattle.stream_groups.specs.Groups.{Id}
use Rattle.stream_groups.proofs.Listing.{kept_later, from_all_in_listing, from_after}
use Rattle.stream_groups.proofs.IdSets.{ids_kept}
use Rattle.stream_groups.proofs.id_set.IdSet.after.Goals.{in-None, in-Some}
use Rattle.stream_groups.proofs.id_set.IdSet.after.Goals as goal

pub returns-in-None-next : goal.returns-in-None-next
returns-in-None-next c =
    let kept : c.range.result ≡ kept_later c.args.above c.self.inside.ids.entries = c.range.ensures.between tt ∙ (elim c.match-above.branch [
      | in-None w ↦ from_all_in_listing c.match-above.start c.args.above c.self.inside.ids.entries w.start-is w.in-None.is
      | in-Some w ↦ from_after c.match-above.start c.args.above w.in-Some.id c.self.inside.ids.entries w.start-is w.in-Some.is
    ]) in
    ap (λ xs. slice_get (list_map (λ (e : Id × Unit {0}). e.0) xs) 0) (sym c.in-None-next.ensures.steps.0 ∙ kept)
    ∙ ap (λ xs. slice_get xs 0) (ids_kept c.self.inside.ids.entries c.args.self.now c.self.invariant c.self.view_is c.args.above)

pub returns-in-Some-next : goal.returns-in-Some-next
returns-in-Some-next c =
    let kept : c.range.result ≡ kept_later c.args.above c.self.inside.ids.entries = c.range.ensures.between tt ∙ (elim c.match-above.branch [
      | in-None w ↦ from_all_in_listing c.match-above.start c.args.above c.self.inside.ids.entries w.start-is w.in-None.is
      | in-Some w ↦ from_after c.match-above.start c.args.above w.in-Some.id c.self.inside.ids.entries w.start-is w.in-Some.is
    ]) in
    ap (λ xs. slice_get (list_map (λ (e : Id × Unit {0}). e.0) xs) 0) (sym c.in-Some-next.ensures.steps ∙ kept)
    ∙ ap (λ xs. slice_get xs 0) (ids_kept c.self.inside.ids.entries c.args.self.now c.self.invariant c.self.view_is c.args.above)
