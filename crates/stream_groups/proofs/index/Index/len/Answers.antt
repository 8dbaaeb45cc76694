use Rattle.std.proofs.Common.{length, ap, sym, ◌∙◌}
use Rattle.std.specs.FinMap as map
use Rattle.std.proofs.lemmas.List.{length-map}
use Rattle.stream_groups.specs.Groups.{Id}
use Rattle.stream_groups.specs.Index.{ids_in}
use Rattle.stream_groups.proofs.Indexing.{set_found}
use Rattle.stream_groups.proofs.index.Index.len.Goals as goal

pub returns-in-None : goal.returns-in-None
returns-in-None c = ap (λ o. length (ids_in o)) (c.in-None.ensures.value ∙ set_found c.self.inside.sets.entries c.args.self.now c.args.name.now c.self.invariant.0 c.self.view_is)

pub returns-in-Some : goal.returns-in-Some
returns-in-Some c = c.len.ensures ∙ map.len-entries c.in-Some.ids.now ∙ sym (length-map (map.entries c.in-Some.ids.now) (λ (e : Id × Unit {0}). e.0))
    ∙ ap (λ o. length (ids_in o)) (c.in-Some.ensures.value ∙ set_found c.self.inside.sets.entries c.args.self.now c.args.name.now c.self.invariant.0 c.self.view_is)
