use Rattle.cmd_sets.proofs.reading.smismember.Goals as goal

pub each_reply-requires : goal.each_reply-requires
each_reply-requires g c = c.new-none.ensures.sound _
