use Rattle.std.proofs.Common.{◌≡◌, ◌++◌, List, [], ◌∷◌, refl, sym, ap, ◌∙◌}
use Rattle.std.specs.Prelude.{ℕ, map as list_map}
use Rattle.std.specs.FinMap as map
use Rattle.stream_groups.specs.Seen.{seen_entries}
use Rattle.stream_groups.specs.Index.{IdSet, counted}
use Rattle.stream_groups.specs.Kept.{Name, bytes_of}
use Rattle.stream_groups.specs.Waits.{owner_pairs}
use Rattle.stream_groups.proofs.Uses.{named_entries}
use Rattle.stream_groups.proofs.index.Index.owners.Goals as goal

-- the entries, each with how many ids it has
lengths : (es : List (Name × IdSet)) → seen_entries bytes_of (λ (ids : IdSet). map.len ids) es ≡ list_map (λ (e : List ℕ × IdSet). (e.0, map.len e.1)) (seen_entries bytes_of (λ (ids : IdSet). ids) es)
lengths [] = refl
lengths (e ∷ es) = ap (λ xs. (e.0.items, map.len e.1) ∷ xs) (lengths es)

pub loop-name-init : goal.loop-name-init
loop-name-init c =
    ap (λ xs. owner_pairs xs ++ seen_entries bytes_of (λ (ids : IdSet). map.len ids) c.iter-rest.result) c.new-owners.ensures.items
    ∙ ap (seen_entries bytes_of (λ (ids : IdSet). map.len ids)) c.iter-rest.ensures.rest ∙ lengths c.self.inside.sets.entries
    ∙ ap (list_map (λ (e : List ℕ × IdSet). (e.0, map.len e.1))) (sym (named_entries (λ (ids : IdSet). ids) c.self.inside.sets.entries c.self.invariant.0)) ∙ ap counted c.self.view_is
