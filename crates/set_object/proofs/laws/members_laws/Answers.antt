use Rattle.set_object.proofs.Depends.{members_laws_hold}
use Rattle.set_object.proofs.laws.members_laws.Goals as goal

pub returns : goal.returns
returns c = members_laws_hold
