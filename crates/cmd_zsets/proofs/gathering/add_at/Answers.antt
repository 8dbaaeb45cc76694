use Rattle.keyspace.specs.Commands.{visible}
use Rattle.cmd_zsets.specs.Joined.{gathered, scores_at}
use Rattle.cmd_zsets.proofs.Meeting.{none_more}
use Rattle.cmd_zsets.proofs.Joins.{missing_scores, other_scores}
use Rattle.cmd_zsets.proofs.gathering.add_at.Goals as goal

pub returns-in-Missing : goal.returns-in-Missing
returns-in-Missing g c =
    let world = visible g.B.BlockStore.blocks c.args.keyspace.now c.args.at.now in
    let key = c.args.key.now in
    none_more c.args.meeting.join c.args.meeting.how c.args.meeting.weight (gathered c.begin-before.result) (gathered c.begin-before.new.all) (gathered c.args.all.now)
    (scores_at world key) c.begin-before.ensures.fresh c.begin-before.ensures.all
    (missing_scores world key (rw c.in-Missing.is at c.zset_at.ensures))

pub returns-in-Other-set_at : goal.returns-in-Other-set_at
returns-in-Other-set_at g c =
    let world = visible g.B.BlockStore.blocks c.args.keyspace.now c.args.at.now in
    let key = c.args.key.now in
    none_more c.args.meeting.join c.args.meeting.how c.args.meeting.weight (gathered c.begin-before.result) (gathered c.begin-before.new.all) (gathered c.args.all.now)
    (scores_at world key) c.begin-before.ensures.fresh c.begin-before.ensures.all
    (other_scores world key c.in-Other.ensures c.in-Other-set_at.ensures)
