use Rattle.std.proofs.Common.{w64}
use Rattle.std.proofs.lemmas.Int.{to_z-of_z}
use Rattle.intset.proofs.Halves.{found_contains}
use Rattle.intset.proofs.ints.Ints.contains.Goals as goal

pub returns : goal.returns
returns c =
    rw c.is_ok.ensures.value
    (found_contains _ _ _ (rw (to_z-of_z w64 c.args.n c.ranges.n) at c.search.ensures.found)
    (rw (to_z-of_z w64 c.args.n c.ranges.n) at c.search.ensures.absent))
