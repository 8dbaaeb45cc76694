use Rattle.std.proofs.Common.{ap, ◌∙◌}
use Rattle.std.specs.FinMap as map
use Rattle.stream_groups.proofs.Uses.{numbered_remove}
use Rattle.stream_groups.proofs.id_set.IdSet.take.Goals as goal

pub returns : goal.returns
returns c = numbered_remove (λ (u : Unit {0}). u) c.self.inside.ids.entries c.self.invariant c.remove.new.self.entries c.remove.ensures.ordered c.args.id c.remove.ensures.entries
    ∙ ap (λ m. map.remove m c.args.id) c.self.view_is
