use Rattle.saving_top.proofs.Left.{stores_none, stores_some}
use Rattle.saving_top.proofs.closing.save_left.Goals as goal

pub returns-in-None : goal.returns-in-None
returns-in-None g c = stores_none c.args.engine.now c.args.name c.args.audited _ _ c.in-None.is

pub returns-in-Some : goal.returns-in-Some
returns-in-Some g c = stores_some c.args.engine.now c.args.name c.in-Some.name c.args.audited _ _ _ _ c.save_under.result c.in-Some.is c.save_under.ensures
