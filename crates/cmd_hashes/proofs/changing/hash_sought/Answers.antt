use Rattle.cmd_hashes.proofs.Looking.{found_other}
use Rattle.cmd_hashes.proofs.AtKeys.{hash_item, not_hash}
use Rattle.cmd_hashes.proofs.changing.hash_sought.Goals as goal

pub returns-in-Hash : goal.returns-in-Hash
returns-in-Hash g c =
    let there = rw c.in-Some.is at c.requires.sees.there in
    hash_item c.args.keyspace.now.bases _ c.args.at.now c.args.key.now c.in-Some.item c.value_at-value.result.now c.in-Hash.field-0 c.in-Hash.is there
    (c.value_at-value.ensures c.args.key.now c.args.at.now.moment there)

pub returns-in_default : goal.returns-in_default
returns-in_default g c =
    found_other _ _ c.args.at.now c.args.key.now c.value_at-value.result.now (not_hash c.value_at-value.result.now c.in_default.not-Hash)
    (c.value_at-value.ensures c.args.key.now c.args.at.now.moment (rw c.in-Some.is at c.requires.sees.there))
