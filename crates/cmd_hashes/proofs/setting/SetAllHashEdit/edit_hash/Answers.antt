use Rattle.std.proofs.Common.{ap, arith}
use Rattle.std.specs.FinMap.{len}
use Rattle.hash_object.specs.Fields.{fields}
use Rattle.cmd_hashes.proofs.Rests.{set_more}
use Rattle.cmd_hashes.proofs.setting.SetAllHashEdit.edit_hash.Goals as goal

pub returns-clause-settled : goal.returns-clause-settled
returns-clause-settled g c fewer =
    let old = fields (g.B.BlockStore.blocks c.args.store.now) c.args.hash.now in
    absurd (omega (arith, fewer, ap len c.in_ok-set_each.ensures.is, set_more old c.args.self.now.pairs.now))
