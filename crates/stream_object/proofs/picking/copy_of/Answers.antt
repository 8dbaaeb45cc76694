use Rattle.stream_node.specs.declared.id.Id.{Id}
use Rattle.stream_object.proofs.picking.copy_of.Goals as goal

pub returns : goal.returns
returns c = λ i. record { id = (let j : Id = c.id-id.ensures i in (j.ms, j.seq)); pairs = c.in_ok-pairs.ensures i }
