use Rattle.stream_node.proofs.Small.{rows}
use Rattle.stream_node.proofs.laws.rows.Goals as goal

pub returns : goal.returns
returns c = rows
