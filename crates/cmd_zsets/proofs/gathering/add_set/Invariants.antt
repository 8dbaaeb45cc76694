use Rattle.cmd_zsets.specs.Joined.{gathered}
use Rattle.cmd_zsets.proofs.Meeting.{IsSoFar, one_at}
use Rattle.cmd_zsets.proofs.gathering.add_set.Given as goal

abbrev pub invariant-loop-item : goal.invariant-loop-item
invariant-loop-item g l =
    IsSoFar l.meeting.join l.meeting.how (one_at (g.B.BlockStore.blocks l.store) l.set) l.meeting.weight (gathered l.before) (gathered l.fn.now) (gathered l.now) l.item
