use Rattle.std.proofs.Common.{◌∙◌}
use Rattle.stream_groups.proofs.Listing.{len_seen}
use Rattle.stream_groups.proofs.entries.Entries.count.Goals as goal

pub returns : goal.returns
returns c = c.len.ensures.len ∙ len_seen c.self.inside.entries.entries c.args.self.now c.self.invariant c.self.view_is
