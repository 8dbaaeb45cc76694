use Rattle.stream_groups.specs.Kept.{pending_of}
use Rattle.stream_groups.proofs.Uses.{numbered_none}
use Rattle.stream_groups.proofs.entries.Entries.new.Goals as goal

pub returns : goal.returns
returns c = numbered_none pending_of _ c.new.ensures.empty
