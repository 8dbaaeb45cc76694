use Rattle.stream_node.proofs.Ids.{id_laws}
use Rattle.stream_node.proofs.laws.ids_are_ordered.Goals as goal

pub returns : goal.returns
returns c = id_laws
