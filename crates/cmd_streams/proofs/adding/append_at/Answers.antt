use Rattle.cmd_streams.proofs.AtKeys.{formed_log}
use Rattle.cmd_streams.proofs.Rests.{always}
use Rattle.cmd_streams.proofs.adding.append_at.Goals as goal

pub returns-clause-forms : goal.returns-clause-forms
returns-clause-forms g c =
    always _ c.bulk.result
    (formed_log _ g.B.BlockStore.blocks g.B.BlockStore.step c.args.keyspace.now c.change_stream.new.keyspace c.args.at.now c.args.key.now c.in_ok-change_stream.ensures.changed
    c.change_stream.ensures.held)
