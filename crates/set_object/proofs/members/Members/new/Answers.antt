use Rattle.set_object.proofs.Forms.{new_least}
use Rattle.set_object.proofs.members.Members.new.Goals as goal

pub returns-clause-form : goal.returns-clause-form
returns-clause-form c = new_least c.args.limits
