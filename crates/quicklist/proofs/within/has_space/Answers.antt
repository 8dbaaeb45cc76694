use Rattle.std.proofs.Common.{◌+◌, length, ap, arith, leb-false}
use Rattle.quicklist.proofs.Overwriting.{full_packed}
use Rattle.quicklist.proofs.Written.{is_short, not_long}
use Rattle.quicklist.proofs.within.has_space.Goals as goal

pub entry_size-requires : goal.entry_size-requires
entry_size-requires g c = is_short c.args.element.now (not_long c.args.element.now c.is_long.result c.is_long.ensures c.if-is_long.false)

pub returns-in-Packed-clause-none : goal.returns-in-Packed-clause-none
returns-in-Packed-clause-none g c =
    λ no index. full_packed (g.B.BlockStore.blocks c.args.store.now) c.args.node c.args.element.now index c.requires.is_node c.in-Packed.is
    (omega (arith, leb-false (length c.bytes.result.now + c.entry_size.result) 8192 no, c.entry_size.ensures.size, ap length c.bytes.ensures))
