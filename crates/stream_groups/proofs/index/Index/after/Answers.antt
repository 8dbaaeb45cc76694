use Rattle.std.proofs.Common.{ap, ◌∙◌}
use Rattle.std.specs.Prelude.{slice_get}
use Rattle.stream_groups.specs.Index.{ids_in, ids_above}
use Rattle.stream_groups.proofs.Indexing.{set_found, none_above_any}
use Rattle.stream_groups.proofs.index.Index.after.Goals as goal

pub returns-in-None : goal.returns-in-None
returns-in-None c = none_above_any c.args.above
    ∙ ap (λ o. slice_get (ids_above c.args.above (ids_in o)) 0) (c.in-None.ensures.value ∙ set_found c.self.inside.sets.entries c.args.self.now c.args.name.now c.self.invariant.0 c.self.view_is)

pub returns-in-Some : goal.returns-in-Some
returns-in-Some c = c.after.ensures
    ∙ ap (λ o. slice_get (ids_above c.args.above (ids_in o)) 0) (c.in-Some.ensures.value ∙ set_found c.self.inside.sets.entries c.args.self.now c.args.name.now c.self.invariant.0 c.self.view_is)
