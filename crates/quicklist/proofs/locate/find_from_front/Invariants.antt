use Rattle.std.proofs.Common.{◌≡◌, ◌≤◌, take}
use Rattle.std.specs.Prelude.{sum_by}
use Rattle.quicklist.specs.Nodes.{count_of}
use Rattle.quicklist.proofs.locate.find_from_front.Given as goal

abbrev pub invariant-loop-k : goal.invariant-loop-k
invariant-loop-k l = record { so_far : l.before ≡ sum_by count_of (take l.k l.nodes.items); passed : l.before ≤ l.index }
