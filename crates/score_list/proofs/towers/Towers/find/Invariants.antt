use Rattle.std.proofs.Common.{count_by}
use Rattle.score_list.specs.Linked.{items}
use Rattle.score_list.proofs.Searching.{Descent, Way}
use Rattle.score_list.proofs.towers.Towers.find.Given as goal

abbrev pub invariant-loop-level : goal.invariant-loop-level
invariant-loop-level g l =
    let rank = count_by (g.P.Probe.above l.probe) (items l.self) in
    record {
      descent : Descent l.self rank l.level l.place.owner l.place.rank;
      way : Way l.self rank l.level l.path;
    }

abbrev pub decreases-loop-level : goal.decreases-loop-level
decreases-loop-level g l = l.level
