use Rattle.cmd_zsets.proofs.Looking.{found_other}
use Rattle.cmd_zsets.proofs.AtKeys.{zset_item, not_zset}
use Rattle.cmd_zsets.proofs.changing.zset_sought.Goals as goal

pub returns-in-Zset : goal.returns-in-Zset
returns-in-Zset g c =
    let there = rw c.in-Some.is at c.requires.sees.there in
    zset_item c.args.keyspace.now.bases _ c.args.at.now c.args.key.now c.in-Some.item c.value_at-value.result.now c.in-Zset.field-0 c.in-Zset.is there
    (c.value_at-value.ensures c.args.key.now c.args.at.now.moment there)

pub returns-in_default : goal.returns-in_default
returns-in_default g c =
    found_other _ _ c.args.at.now c.args.key.now c.value_at-value.result.now (not_zset c.value_at-value.result.now c.in_default.not-Zset)
    (c.value_at-value.ensures c.args.key.now c.args.at.now.moment (rw c.in-Some.is at c.requires.sees.there))
