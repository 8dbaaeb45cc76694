use Rattle.std.proofs.Common.{◌∙◌}
use Rattle.stream_groups.proofs.IdSets.{ids_count}
use Rattle.stream_groups.proofs.id_set.IdSet.len.Goals as goal

pub returns : goal.returns
returns c = c.len.ensures.len ∙ ids_count c.self.inside.ids.entries c.args.self.now c.self.invariant c.self.view_is
