use Rattle.score_list.proofs.Searching.{Descent, Way}
use Rattle.score_list.proofs.towers.Towers.path_to.Given as goal

abbrev pub invariant-loop-level : goal.invariant-loop-level
invariant-loop-level l = record {
  descent : Descent l.self l.to l.level l.place.owner l.place.rank;
  way : Way l.self l.to l.level l.path;
}

abbrev pub decreases-loop-level : goal.decreases-loop-level
decreases-loop-level l = l.level
