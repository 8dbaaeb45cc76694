use Rattle.std.proofs.Common.{◌≡◌, ◌∷◌, [], true, rules}
use Rattle.std.specs.Prelude.{pos}
use Rattle.std.specs.FinMap.{contains_key}
use Rattle.plain_world.specs.declared.reply.Part.TheVariants.{Number}
use Rattle.plain_model.specs.StreamSteps.{on_stream}
use Rattle.plain_model.specs.GroupSteps.{ack}
use Rattle.keyspace.specs.Commands.{visible}
use Rattle.keyspace.specs.Scopes.{one_key}
use Rattle.keyspace.proofs.Running.{unchanged}
use Rattle.cmd_streams.proofs.AtKeys.{formed_log}
use Rattle.cmd_streams.proofs.Rests.{always}
use Rattle.cmd_streams.proofs.Regrouped.{told_reply}
use Rattle.cmd_streams.proofs.Acking.{acked}
use Rattle.cmd_streams.proofs.acknowledging.xack.Goals as goal

pub returns-in-Other-clause-kept : goal.returns-in-Other-clause-kept
returns-in-Other-clause-kept g c = unchanged g.B.BlockStore.blocks g.B.BlockStore.step (one_key c.args.at.now.db c.args.key.now) c.args.keyspace.now c.refused.result c.requires.ready.sound

pub returns-in-Missing-clause-kept : goal.returns-in-Missing-clause-kept
returns-in-Missing-clause-kept g c = unchanged g.B.BlockStore.blocks g.B.BlockStore.step (one_key c.args.at.now.db c.args.key.now) c.args.keyspace.now c.count_reply.result c.requires.ready.sound

pub returns-then-not-has_group-clause-kept : goal.returns-then-not-has_group-clause-kept
returns-then-not-has_group-clause-kept g c = unchanged g.B.BlockStore.blocks g.B.BlockStore.step (one_key c.args.at.now.db c.args.key.now) c.args.keyspace.now
    c.count_reply-then-not-has_group.result c.requires.ready.sound

pub returns-clause-forms : goal.returns-clause-forms
returns-clause-forms g c =
    always _ c.count_reply-2.result
    (formed_log _ g.B.BlockStore.blocks g.B.BlockStore.step c.args.keyspace.now c.change_stream.new.keyspace c.args.at.now c.args.key.now c.in_ok-acknowledge.ensures.changed
    c.change_stream.ensures.held)

pub returns-clause-gives : goal.returns-clause-gives
returns-clause-gives g c =
    let blocks = g.B.BlockStore.blocks in
    let old = visible blocks c.args.keyspace.now c.args.at.now in
    let new = visible blocks c.change_stream.new.keyspace c.args.at.now in
    let stream = c.stream_there.result.now in
    let gone = c.in_ok-acknowledge.acknowledge.gone in
    let p = c.in_ok-acknowledge.ensures.changed in
    let there : contains_key stream.groups c.args.name.now ≡ true = search rules in
    told_reply new (on_stream old c.args.key.now (ack old c.args.key.now c.args.name.now c.args.ids.now)) (Number (pos gone) ∷ [])
    (acked old new (blocks c.args.keyspace.now.store) c.args.key.now c.args.name.now c.args.ids.now stream p.before p.now gone c.stream_there.ensures there p.stands p.made p.world)
    c.count_reply-2.result c.count_reply-2.ensures
