use Rattle.stream_groups.proofs.Uses.{named_none}
use Rattle.stream_groups.proofs.groups.Groups.new.Goals as goal

pub returns : goal.returns
returns c = named_none (λ group. group) _ c.new.ensures.empty
