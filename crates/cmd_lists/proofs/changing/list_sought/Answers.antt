use Rattle.cmd_lists.proofs.Looking.{found_other}
use Rattle.cmd_lists.proofs.AtKeys.{list_item, not_list}
use Rattle.cmd_lists.proofs.changing.list_sought.Goals as goal

pub returns-in-List : goal.returns-in-List
returns-in-List g c =
    let there = rw c.in-Some.is at c.requires.sees.there in
    list_item c.args.keyspace.now.bases _ c.args.at.now c.args.key.now c.in-Some.item c.value_at-value.result.now c.in-List.field-0 c.in-List.is there
    (c.value_at-value.ensures c.args.key.now c.args.at.now.moment there)

pub returns-in_default : goal.returns-in_default
returns-in_default g c =
    found_other _ _ c.args.at.now c.args.key.now c.value_at-value.result.now (not_list c.value_at-value.result.now c.in_default.not-List)
    (c.value_at-value.ensures c.args.key.now c.args.at.now.moment (rw c.in-Some.is at c.requires.sees.there))
