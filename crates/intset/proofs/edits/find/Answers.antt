use Rattle.std.proofs.Common.{w64}
use Rattle.std.proofs.lemmas.Int.{to_z-of_z}
use Rattle.intset.proofs.edits.find.Goals as goal

pub returns : goal.returns
returns c = record {
  found = rw (to_z-of_z w64 c.args.n c.ranges.n, c.known.ensures) at c.search.ensures.found;
  absent = rw (to_z-of_z w64 c.args.n c.ranges.n, c.known.ensures) at c.search.ensures.absent;
}
