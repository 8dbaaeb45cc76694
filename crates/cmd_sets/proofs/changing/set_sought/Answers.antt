use Rattle.cmd_sets.proofs.Looking.{found_other}
use Rattle.cmd_sets.proofs.AtKeys.{set_item, not_set}
use Rattle.cmd_sets.proofs.changing.set_sought.Goals as goal

pub returns-in-Set : goal.returns-in-Set
returns-in-Set g c =
    let there = rw c.in-Some.is at c.requires.sees.there in
    set_item c.args.keyspace.now.bases _ c.args.at.now c.args.key.now c.in-Some.item c.value_at-value.result.now c.in-Set.field-0 c.in-Set.is there
    (c.value_at-value.ensures c.args.key.now c.args.at.now.moment there)

pub returns-in_default : goal.returns-in_default
returns-in_default g c =
    found_other _ _ c.args.at.now c.args.key.now c.value_at-value.result.now (not_set c.value_at-value.result.now c.in_default.not-Set)
    (c.value_at-value.ensures c.args.key.now c.args.at.now.moment (rw c.in-Some.is at c.requires.sees.there))
