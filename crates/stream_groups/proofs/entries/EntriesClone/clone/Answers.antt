use Rattle.std.proofs.Common.{◌∙◌}
use Rattle.stream_groups.proofs.Copies.{same_pendings}
use Rattle.stream_groups.proofs.entries.EntriesClone.clone.Goals as goal

pub returns : goal.returns
returns c = record { cases = same_pendings c.self.inside.entries.entries c.in_ok-clone.field-0.entries c.in_ok-clone.ensures.cases ∙ c.self.view_is }
