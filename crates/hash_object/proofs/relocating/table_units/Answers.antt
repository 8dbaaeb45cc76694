use Rattle.std.proofs.Common.{arith}
use Rattle.hash_object.proofs.Marks.{all_units}
use Rattle.hash_object.proofs.relocating.table_units.Goals as goal

pub returns : goal.returns
returns c = omega (arith, all_units c.args.table.now c.len.ensures.placed.below, c.top.ensures.value, c.len.ensures.value, c.min.ensures)
