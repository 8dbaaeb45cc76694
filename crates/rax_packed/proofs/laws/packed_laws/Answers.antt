use Rattle.rax_packed.proofs.Depends.{packed_laws_hold}
use Rattle.rax_packed.proofs.laws.packed_laws.Goals as goal

pub returns : goal.returns
returns c = packed_laws_hold
