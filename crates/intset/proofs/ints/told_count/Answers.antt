use Rattle.intset.specs.Intset.{count_of}
use Rattle.intset.proofs.Packed.{rest_is}
use Rattle.intset.proofs.ints.told_count.Goals as goal

pub returns-clause-value : goal.returns-clause-value
unfolding count_of
returns-clause-value c = rw (rest_is 4 c.args.bytes.now) at c.read_u32.ensures
