use Rattle.quicklist.proofs.Depends.{quick_laws_hold}
use Rattle.quicklist.proofs.laws.quick_laws.Goals as goal

pub returns : goal.returns
returns c = quick_laws_hold
