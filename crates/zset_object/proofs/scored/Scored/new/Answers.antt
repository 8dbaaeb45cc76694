use Rattle.zset_object.proofs.Forms.{new_least}
use Rattle.zset_object.proofs.scored.Scored.new.Goals as goal

pub returns-clause-form : goal.returns-clause-form
returns-clause-form c = new_least c.args.limits
