use Rattle.score_list.specs.Linked.{order, without_at}
use Rattle.score_list.proofs.Threading.{Editing}
use Rattle.score_list.proofs.towers.Towers.unthread.Given as goal

abbrev pub invariant-loop-level : goal.invariant-loop-level
invariant-loop-level l = Editing l.fn.self (order l.fn.self) (without_at (order l.fn.self) l.rank) l.rank l.self l.level

abbrev pub decreases-loop-level : goal.decreases-loop-level
decreases-loop-level l = l.level
