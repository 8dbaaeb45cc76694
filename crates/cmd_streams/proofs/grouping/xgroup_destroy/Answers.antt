use Rattle.keyspace.specs.Scopes.{one_key}
use Rattle.keyspace.proofs.Running.{unchanged}
use Rattle.cmd_streams.proofs.AtKeys.{formed_log}
use Rattle.cmd_streams.proofs.Rests.{always}
use Rattle.cmd_streams.proofs.grouping.xgroup_destroy.Goals as goal

pub returns-in-Other-clause-kept : goal.returns-in-Other-clause-kept
returns-in-Other-clause-kept g c = unchanged g.B.BlockStore.blocks g.B.BlockStore.step (one_key c.args.at.now.db c.args.key.now) c.args.keyspace.now c.refused.result c.requires.ready.sound

pub returns-in-Missing-clause-kept : goal.returns-in-Missing-clause-kept
returns-in-Missing-clause-kept g c = unchanged g.B.BlockStore.blocks g.B.BlockStore.step (one_key c.args.at.now.db c.args.key.now) c.args.keyspace.now c.refused-in-Missing.result
    c.requires.ready.sound

pub returns-then-not-has_group-clause-kept : goal.returns-then-not-has_group-clause-kept
returns-then-not-has_group-clause-kept g c = unchanged g.B.BlockStore.blocks g.B.BlockStore.step (one_key c.args.at.now.db c.args.key.now) c.args.keyspace.now c.count_reply.result
    c.requires.ready.sound

pub returns-clause-forms : goal.returns-clause-forms
returns-clause-forms g c =
    always _ c.count_reply-2.result
    (formed_log _ g.B.BlockStore.blocks g.B.BlockStore.step c.args.keyspace.now c.change_stream.new.keyspace c.args.at.now c.args.key.now c.in_ok-change_stream.ensures.changed
    c.change_stream.ensures.held)
