use Rattle.saving_top.proofs.Left.{audits_told}
use Rattle.saving_top.proofs.closing.audit_left.Goals as goal

pub returns-in-Ok : goal.returns-in-Ok
returns-in-Ok g c = audits_told c.args.engine.now c.args.asked c.args.served _ _ c.if-not-asked.false c.if-served-ne0.false c.in-Ok.ensures
