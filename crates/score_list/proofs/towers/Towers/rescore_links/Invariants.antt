use Rattle.score_list.proofs.Rescoring.{Rescoring}
use Rattle.score_list.proofs.towers.Towers.rescore_links.Given as goal

abbrev pub invariant-loop-level : goal.invariant-loop-level
invariant-loop-level l = Rescoring l.fn.self l.path l.score l.self l.level
