use Rattle.std.proofs.Common.{◌≡◌, ◌++◌, length}
use Rattle.cmd_zsets.specs.Found.{scores_in}
use Rattle.cmd_zsets.specs.Spans.{scores_told}
use Rattle.cmd_zsets.proofs.reading.push_scores.Given as goal

abbrev pub invariant-members : goal.invariant-members
invariant-members g l =
    let scores = scores_in (g.B.BlockStore.blocks l.store) l.zset in
    l.parts ++ scores_told scores l.rest ≡ l.fn.parts ++ scores_told scores l.members

abbrev pub decreases-members : goal.decreases-members
decreases-members g l = length l.rest
