use Rattle.std.proofs.Common.{arith}
use Rattle.listpack.proofs.Spellings.{spelling_pos}
use Rattle.listpack.proofs.encoding.element_of.Goals as goal

pub unreachable-requires : goal.unreachable-requires
unreachable-requires c = let p = spelling_pos c.args.spelling.now c.requires in omega (arith, p)
