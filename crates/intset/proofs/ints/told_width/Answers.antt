use Rattle.intset.specs.Intset.{width_of}
use Rattle.intset.proofs.ints.told_width.Goals as goal

pub returns : goal.returns
unfolding width_of
returns c = c.read_u32.ensures
