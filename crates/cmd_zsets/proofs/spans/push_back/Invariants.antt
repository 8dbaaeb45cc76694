use Rattle.std.proofs.Common.{◌≡◌, ◌++◌, length, reverse}
use Rattle.cmd_zsets.specs.Spans.{told_all}
use Rattle.cmd_zsets.proofs.spans.push_back.Given as goal

abbrev pub invariant-members : goal.invariant-members
invariant-members l = l.parts ++ told_all l.with_scores (reverse l.left.items) ≡ l.fn.parts ++ told_all l.with_scores (reverse l.fn.met.items)

abbrev pub decreases-members : goal.decreases-members
decreases-members l = length l.left.items
