use Rattle.std.proofs.Common.{arith}
use Rattle.std.specs.FinMap.{len}
use Rattle.hash_object.specs.Fields.{fields}
use Rattle.cmd_hashes.proofs.deleting.RemoveAllHashEdit.edit_hash.Goals as goal

pub returns-clause-settled : goal.returns-clause-settled
returns-clause-settled g c =
    c.in_ok-unset_each.ensures.settles (len (fields (g.B.BlockStore.blocks c.args.store.now) c.args.hash.now)) (λ less. absurd (omega (arith, less)))
