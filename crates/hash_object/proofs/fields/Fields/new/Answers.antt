use Rattle.hash_object.proofs.Forms.{new_least}
use Rattle.hash_object.proofs.fields.Fields.new.Goals as goal

pub returns-clause-form : goal.returns-clause-form
returns-clause-form c = new_least c.args.limits
