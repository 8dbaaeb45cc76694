use Rattle.score_list.specs.Linked.{order, with_at}
use Rattle.score_list.proofs.Threading.{Editing}
use Rattle.score_list.proofs.towers.Towers.thread.Given as goal

abbrev pub invariant-loop-level : goal.invariant-loop-level
invariant-loop-level l = Editing l.fn.self (order l.fn.self) (with_at (order l.fn.self) l.rank l.key) l.rank l.self l.level

abbrev pub decreases-loop-level : goal.decreases-loop-level
decreases-loop-level l = l.level
