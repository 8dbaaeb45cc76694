use Rattle.std.proofs.Common.{◌-◌, count_by, length}
use Rattle.score_list.specs.Linked.{StandsAt, items, order}
use Rattle.score_list.proofs.towers.Towers.pass.Given as goal

abbrev pub invariant-loop-link : goal.invariant-loop-link
invariant-loop-link g l = StandsAt l.self l.level (count_by (g.P.Probe.above l.probe) (items l.self)) l.place.owner l.place.rank

abbrev pub decreases-loop-link : goal.decreases-loop-link
decreases-loop-link g l = length (order l.self) - l.place.rank
