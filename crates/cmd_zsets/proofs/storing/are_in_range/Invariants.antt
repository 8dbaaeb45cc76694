use Rattle.std.proofs.Common.{◌≡◌, map}
use Rattle.plain_model.specs.ZsetSteps.{are_scores}
use Rattle.cmd_zsets.specs.Joined.{entry_of}
use Rattle.cmd_zsets.proofs.storing.are_in_range.Given as goal

abbrev pub invariant-loop-sum : goal.invariant-loop-sum
invariant-loop-sum l = are_scores (map entry_of l.sum-iterator) ≡ are_scores (map entry_of l.sums.entries)
