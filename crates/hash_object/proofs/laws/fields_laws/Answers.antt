use Rattle.hash_object.proofs.Depends.{fields_laws_hold}
use Rattle.hash_object.proofs.laws.fields_laws.Goals as goal

pub returns : goal.returns
returns c = fields_laws_hold
