use Rattle.blocks.proofs.ChangeLaws.{changes_hold}
use Rattle.blocks.proofs.laws.changes_laws.Goals as goal

pub returns : goal.returns
returns c = changes_hold
