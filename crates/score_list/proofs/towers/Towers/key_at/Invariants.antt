use Rattle.score_list.proofs.Searching.{Descent}
use Rattle.score_list.proofs.towers.Towers.key_at.Given as goal

abbrev pub invariant-loop-level : goal.invariant-loop-level
invariant-loop-level l = Descent l.self l.rank l.level l.place.owner l.place.rank

abbrev pub decreases-loop-level : goal.decreases-loop-level
decreases-loop-level l = l.level
