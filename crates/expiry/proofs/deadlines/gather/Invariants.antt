use Rattle.std.proofs.Common.{length}
use Rattle.rehash_dict.specs.Scan.{scanned}
use Rattle.expiry.proofs.Gathering.{todo, Gathers}
use Rattle.expiry.proofs.deadlines.gather.Given as goal

abbrev pub invariant-loop-next : goal.invariant-loop-next
invariant-loop-next l = Gathers l.table l.moment (scanned l.table.older l.table.newer l.cursor).0 l.next l.found

abbrev pub decreases-loop-next : goal.decreases-loop-next
decreases-loop-next l = length (todo l.next (scanned l.table.older l.table.newer l.cursor).0)
