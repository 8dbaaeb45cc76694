use Rattle.stream_node.proofs.ReadBack.{is_node, reads_node}
use Rattle.stream_node.proofs.laws.entries_are_read.Goals as goal

pub returns : goal.returns
returns c = λ key list es n. (is_node key list es n, reads_node key list es n)
