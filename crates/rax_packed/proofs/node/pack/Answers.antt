use Rattle.rax_packed.specs.Nodes.{ref_bytes}
use Rattle.rax_packed.proofs.node.pack.Goals as goal

pub returns-clause-bytes : goal.returns-clause-bytes
unfolding ref_bytes
returns-clause-bytes c = rw (c.write_u32.ensures, c.write_u64.ensures)
