use Rattle.std.proofs.Common.{◌-◌}
use Rattle.score_list.specs.Linked.{StandsAt}
use Rattle.score_list.proofs.towers.Towers.advance.Given as goal

abbrev pub invariant-loop-place : goal.invariant-loop-place
invariant-loop-place l = StandsAt l.self l.level l.rank l.place.owner l.place.rank

abbrev pub decreases-loop-place : goal.decreases-loop-place
decreases-loop-place l = l.rank - l.place.rank
