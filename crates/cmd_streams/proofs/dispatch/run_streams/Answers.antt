use Rattle.std.proofs.Common.{◌≡◌, rules, ap, subst, refl}
use Rattle.plain_world.specs.Words.{most_words}
use Rattle.plain_model.specs.GroupSteps.{stream_outcome}
use Rattle.plain_model.specs.declared.command.Command.TheVariants.{Streams}
use Rattle.plain_model.specs.declared.stream_command.StreamCommand.TheVariants as streams
use Rattle.plain_model.proofs.StreamsAsked.{FitsStreams, streams_fit}
use Rattle.keyspace.specs.Commands.{visible}
use Rattle.keyspace.proofs.Running.{told, ran, looked, nothing_shown}
use Rattle.cmd_streams.proofs.dispatch.run_streams.Goals as goal
use Rattle.keyspace.specs.Forms.{Unwritten}

pub xadd-requires-clause-entry : goal.xadd-requires-clause-entry
xadd-requires-clause-entry g c =
    let command = streams.XAdd c.as_slice.result.now c.in-XAdd.options c.in-XAdd.id c.as_slice-in-XAdd.result.now in
    let same : c.args.command.now ≡ command = search rules in
    let entry = subst (FitsStreams most_words) same (streams_fit c.requires.asked.words c.args.command.now c.requires.asked.request c.requires.asked.means) in
    record { some = entry.some; few = entry.few; short = entry.short }

pub returns-in-XAdd : goal.returns-in-XAdd
returns-in-XAdd g c = ran g.B.BlockStore.blocks g.B.BlockStore.step c.args.keyspace.now c.xadd.new.keyspace c.args.at.now (Streams c.args.command.now)
    (Streams (streams.XAdd c.as_slice.result.now c.in-XAdd.options c.in-XAdd.id c.as_slice-in-XAdd.result.now)) c.xadd.result (ap Streams (search rules))
    (told
    (stream_outcome (visible g.B.BlockStore.blocks c.args.keyspace.now c.args.at.now) c.args.at.now.moment
    (streams.XAdd c.as_slice.result.now c.in-XAdd.options c.in-XAdd.id c.as_slice-in-XAdd.result.now)) (visible g.B.BlockStore.blocks c.xadd.new.keyspace c.args.at.now) c.xadd.result
    c.xadd.ensures.gives) c.xadd.ensures.kept (nothing_shown c.xadd.result) c.xadd.ensures.forms

pub returns-in-XLen : goal.returns-in-XLen
returns-in-XLen g c = looked g.B.BlockStore.blocks g.B.BlockStore.step c.args.keyspace.now c.args.at.now (Streams c.args.command.now) (Streams (streams.XLen c.as_slice-in-XLen.result.now))
    c.xlen.result (ap Streams (search rules))
    (told (stream_outcome (visible g.B.BlockStore.blocks c.args.keyspace.now c.args.at.now) c.args.at.now.moment (streams.XLen c.as_slice-in-XLen.result.now))
    (visible g.B.BlockStore.blocks c.args.keyspace.now c.args.at.now) c.xlen.result c.xlen.ensures.gives) (nothing_shown c.xlen.result) c.requires.ready Unwritten (λ reply. refl)

pub returns-in-XRange : goal.returns-in-XRange
returns-in-XRange g c = looked g.B.BlockStore.blocks g.B.BlockStore.step c.args.keyspace.now c.args.at.now (Streams c.args.command.now)
    (Streams (streams.XRange c.as_slice-in-XRange.result.now c.in-XRange.from c.in-XRange.to c.in-XRange.order c.in-XRange.limit)) c.xrange.result (ap Streams (search rules))
    (told
    (stream_outcome (visible g.B.BlockStore.blocks c.args.keyspace.now c.args.at.now) c.args.at.now.moment
    (streams.XRange c.as_slice-in-XRange.result.now c.in-XRange.from c.in-XRange.to c.in-XRange.order c.in-XRange.limit)) (visible g.B.BlockStore.blocks c.args.keyspace.now c.args.at.now)
    c.xrange.result c.xrange.ensures.gives) (nothing_shown c.xrange.result) c.requires.ready Unwritten (λ reply. refl)

pub returns-in-XDel : goal.returns-in-XDel
returns-in-XDel g c = ran g.B.BlockStore.blocks g.B.BlockStore.step c.args.keyspace.now c.xdel.new.keyspace c.args.at.now (Streams c.args.command.now)
    (Streams (streams.XDel c.as_slice-in-XDel.result.now c.as_slice-in-XDel-2.result.now)) c.xdel.result (ap Streams (search rules))
    (told (stream_outcome (visible g.B.BlockStore.blocks c.args.keyspace.now c.args.at.now) c.args.at.now.moment (streams.XDel c.as_slice-in-XDel.result.now c.as_slice-in-XDel-2.result.now))
    (visible g.B.BlockStore.blocks c.xdel.new.keyspace c.args.at.now) c.xdel.result c.xdel.ensures.gives) c.xdel.ensures.kept (nothing_shown c.xdel.result) c.xdel.ensures.forms

pub returns-in-XTrim : goal.returns-in-XTrim
returns-in-XTrim g c = ran g.B.BlockStore.blocks g.B.BlockStore.step c.args.keyspace.now c.xtrim.new.keyspace c.args.at.now (Streams c.args.command.now)
    (Streams (streams.XTrim c.as_slice-in-XTrim.result.now c.in-XTrim.trim)) c.xtrim.result (ap Streams (search rules))
    (told (stream_outcome (visible g.B.BlockStore.blocks c.args.keyspace.now c.args.at.now) c.args.at.now.moment (streams.XTrim c.as_slice-in-XTrim.result.now c.in-XTrim.trim))
    (visible g.B.BlockStore.blocks c.xtrim.new.keyspace c.args.at.now) c.xtrim.result c.xtrim.ensures.gives) c.xtrim.ensures.kept (nothing_shown c.xtrim.result) c.xtrim.ensures.forms

pub returns-in-XRead : goal.returns-in-XRead
returns-in-XRead g c = looked g.B.BlockStore.blocks g.B.BlockStore.step c.args.keyspace.now c.args.at.now (Streams c.args.command.now)
    (Streams (streams.XRead c.in-XRead.limit c.as_slice-in-XRead.result.now)) c.xread.result (ap Streams (search rules))
    (told (stream_outcome (visible g.B.BlockStore.blocks c.args.keyspace.now c.args.at.now) c.args.at.now.moment (streams.XRead c.in-XRead.limit c.as_slice-in-XRead.result.now))
    (visible g.B.BlockStore.blocks c.args.keyspace.now c.args.at.now) c.xread.result c.xread.ensures.gives) (nothing_shown c.xread.result) c.requires.ready Unwritten (λ reply. refl)

pub returns-in-XGroupCreate : goal.returns-in-XGroupCreate
returns-in-XGroupCreate g c = ran g.B.BlockStore.blocks g.B.BlockStore.step c.args.keyspace.now c.xgroup_create.new.keyspace c.args.at.now (Streams c.args.command.now)
    (Streams (streams.XGroupCreate c.as_slice-in-XGroupCreate.result.now c.as_slice-in-XGroupCreate-2.result.now c.in-XGroupCreate.id c.in-XGroupCreate.make)) c.xgroup_create.result
    (ap Streams (search rules))
    (told
    (stream_outcome (visible g.B.BlockStore.blocks c.args.keyspace.now c.args.at.now) c.args.at.now.moment
    (streams.XGroupCreate c.as_slice-in-XGroupCreate.result.now c.as_slice-in-XGroupCreate-2.result.now c.in-XGroupCreate.id c.in-XGroupCreate.make))
    (visible g.B.BlockStore.blocks c.xgroup_create.new.keyspace c.args.at.now) c.xgroup_create.result c.xgroup_create.ensures.gives) c.xgroup_create.ensures.kept
    (nothing_shown c.xgroup_create.result) c.xgroup_create.ensures.forms

pub returns-in-XGroupDestroy : goal.returns-in-XGroupDestroy
returns-in-XGroupDestroy g c = ran g.B.BlockStore.blocks g.B.BlockStore.step c.args.keyspace.now c.xgroup_destroy.new.keyspace c.args.at.now (Streams c.args.command.now)
    (Streams (streams.XGroupDestroy c.as_slice-in-XGroupDestroy.result.now c.as_slice-in-XGroupDestroy-2.result.now)) c.xgroup_destroy.result (ap Streams (search rules))
    (told
    (stream_outcome (visible g.B.BlockStore.blocks c.args.keyspace.now c.args.at.now) c.args.at.now.moment
    (streams.XGroupDestroy c.as_slice-in-XGroupDestroy.result.now c.as_slice-in-XGroupDestroy-2.result.now)) (visible g.B.BlockStore.blocks c.xgroup_destroy.new.keyspace c.args.at.now)
    c.xgroup_destroy.result c.xgroup_destroy.ensures.gives) c.xgroup_destroy.ensures.kept (nothing_shown c.xgroup_destroy.result) c.xgroup_destroy.ensures.forms

pub returns-in-XReadGroup : goal.returns-in-XReadGroup
returns-in-XReadGroup g c = ran g.B.BlockStore.blocks g.B.BlockStore.step c.args.keyspace.now c.xreadgroup.new.keyspace c.args.at.now (Streams c.args.command.now)
    (Streams (streams.XReadGroup c.as_slice-in-XReadGroup.result.now c.as_slice-in-XReadGroup-2.result.now c.in-XReadGroup.limit c.as_slice-in-XReadGroup-3.result.now)) c.xreadgroup.result
    (ap Streams (search rules))
    (told
    (stream_outcome (visible g.B.BlockStore.blocks c.args.keyspace.now c.args.at.now) c.args.at.now.moment
    (streams.XReadGroup c.as_slice-in-XReadGroup.result.now c.as_slice-in-XReadGroup-2.result.now c.in-XReadGroup.limit c.as_slice-in-XReadGroup-3.result.now))
    (visible g.B.BlockStore.blocks c.xreadgroup.new.keyspace c.args.at.now) c.xreadgroup.result c.xreadgroup.ensures.gives) c.xreadgroup.ensures.kept (nothing_shown c.xreadgroup.result)
    c.xreadgroup.ensures.forms

pub returns-in-XAck : goal.returns-in-XAck
returns-in-XAck g c = ran g.B.BlockStore.blocks g.B.BlockStore.step c.args.keyspace.now c.xack.new.keyspace c.args.at.now (Streams c.args.command.now)
    (Streams (streams.XAck c.as_slice-in-XAck.result.now c.as_slice-in-XAck-2.result.now c.as_slice-in-XAck-3.result.now)) c.xack.result (ap Streams (search rules))
    (told
    (stream_outcome (visible g.B.BlockStore.blocks c.args.keyspace.now c.args.at.now) c.args.at.now.moment
    (streams.XAck c.as_slice-in-XAck.result.now c.as_slice-in-XAck-2.result.now c.as_slice-in-XAck-3.result.now)) (visible g.B.BlockStore.blocks c.xack.new.keyspace c.args.at.now)
    c.xack.result c.xack.ensures.gives) c.xack.ensures.kept (nothing_shown c.xack.result) c.xack.ensures.forms

pub returns-in-XPending : goal.returns-in-XPending
returns-in-XPending g c = looked g.B.BlockStore.blocks g.B.BlockStore.step c.args.keyspace.now c.args.at.now (Streams c.args.command.now)
    (Streams (streams.XPending c.as_slice-in-XPending.result.now c.as_slice-in-XPending-2.result.now)) c.xpending.result (ap Streams (search rules))
    (told
    (stream_outcome (visible g.B.BlockStore.blocks c.args.keyspace.now c.args.at.now) c.args.at.now.moment
    (streams.XPending c.as_slice-in-XPending.result.now c.as_slice-in-XPending-2.result.now)) (visible g.B.BlockStore.blocks c.args.keyspace.now c.args.at.now) c.xpending.result
    c.xpending.ensures.gives) (nothing_shown c.xpending.result) c.requires.ready Unwritten (λ reply. refl)
