use Rattle.stream_groups.proofs.Uses.{numbered_none}
use Rattle.stream_groups.proofs.id_set.IdSet.new.Goals as goal

pub returns : goal.returns
returns c = numbered_none (λ (u : Unit {0}). u) _ c.new.ensures.empty
