use Rattle.stream_node.proofs.OneNode.{at_most_one}
use Rattle.stream_node.proofs.laws.at_most_one.Goals as goal

pub returns : goal.returns
returns c = at_most_one
