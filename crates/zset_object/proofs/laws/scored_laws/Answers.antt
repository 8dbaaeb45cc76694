use Rattle.zset_object.proofs.Depends.{scored_laws_hold}
use Rattle.zset_object.proofs.laws.scored_laws.Goals as goal

pub returns : goal.returns
returns c = scored_laws_hold
