use Rattle.stream_groups.specs.Index.{IdSet}
use Rattle.stream_groups.proofs.Uses.{named_none}
use Rattle.stream_groups.proofs.Indexing.{some_at_first}
use Rattle.stream_groups.proofs.index.Index.new.Goals as goal

pub invariant_of-result : goal.invariant_of-result
invariant_of-result c = (c.new.ensures.ordered, some_at_first _ (named_none (λ (ids : IdSet). ids) _ c.new.ensures.empty))

pub returns : goal.returns
returns c = named_none (λ (ids : IdSet). ids) _ c.new.ensures.empty
