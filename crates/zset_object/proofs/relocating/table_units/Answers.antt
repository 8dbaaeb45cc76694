use Rattle.std.proofs.Common.{arith}
use Rattle.collection_walk.proofs.Counted.{all_units}
use Rattle.zset_object.proofs.relocating.table_units.Goals as goal

pub returns : goal.returns
returns c = omega (arith, all_units c.args.table.now.table (λ at some. omega (arith, c.top.ensures.above at some, c.top.ensures.value)), c.top.ensures.value, c.min.ensures)
