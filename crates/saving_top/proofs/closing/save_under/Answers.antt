use Rattle.saving_top.proofs.Left.{fit_saved, stores_saved, stores_failed, stores_other}
use Rattle.saving_top.proofs.closing.save_under.Goals as goal

pub save-requires-clause-fit : goal.save-requires-clause-fit
save-requires-clause-fit g c = fit_saved c.args.engine.now c.keyspace.result.now c.moment.result c.keyspace.ensures.keyspace c.moment.ensures (c.requires c.if-audited-ne0.false)

pub returns-then-audited-ne0 : goal.returns-then-audited-ne0
returns-then-audited-ne0 g c = stores_other c.args.engine.now c.args.name.now c.args.audited _ _ c.if-audited-ne0.true

pub returns-in-Ok : goal.returns-in-Ok
returns-in-Ok g c = stores_saved c.args.engine.now c.keyspace.result.now c.moment.result c.keyspace.ensures.keyspace c.moment.ensures c.args.name.now c.args.audited _ _ _ c.if-audited-ne0.false
    c.in-Ok.ensures.saves.0 c.in-Ok.ensures.saves.1 c.in-Ok.ensures.others

pub returns-in-Err : goal.returns-in-Err
returns-in-Err g c = stores_failed c.args.engine.now c.args.name.now c.args.audited _ _ _ _ c.if-audited-ne0.false c.note_fault.ensures c.in-Err.ensures.saves c.in-Err.ensures.others
