use Rattle.stream_groups.proofs.Gaps.{names_none}
use Rattle.stream_groups.proofs.consumers.Consumers.new.Goals as goal

pub returns : goal.returns
returns c = names_none c.new.result.items c.new.ensures.items
