use Rattle.std.proofs.Common.{arith}
use Rattle.std.specs.FinMap.{len}
use Rattle.zset_object.specs.Scored.{scores}
use Rattle.cmd_zsets.proofs.removing.RemoveAllZsetEdit.edit_zset.Goals as goal

pub returns-clause-settled : goal.returns-clause-settled
returns-clause-settled g c =
    c.in_ok-take_each.ensures.settles (len (scores (g.B.BlockStore.blocks c.args.store.now) c.args.zset.now)) (λ less. absurd (omega (arith, less)))
