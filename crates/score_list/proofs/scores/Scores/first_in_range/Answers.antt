use Rattle.std.proofs.Common.{to_z, of_z, w64}
use Rattle.score_list.specs.Linked.{items}
use Rattle.score_list.proofs.Sortings.{rising_parted, any_each}
use Rattle.score_list.proofs.scores.Scores.first_in_range.Goals as goal

pub find-requires-clause-parted : goal.find-requires-clause-parted
find-requires-clause-parted c = rising_parted (to_z w64 (of_z w64 c.args.least)) (items c.self.inside.towers) c.self.invariant.1

pub find-requires-clause-compares : goal.find-requires-clause-compares
find-requires-clause-compares c = any_each (items c.self.inside.towers)
