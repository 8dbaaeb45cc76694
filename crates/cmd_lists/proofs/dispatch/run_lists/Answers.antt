use Rattle.std.proofs.Common.{rules, refl, sym, ap, ◌∙◌}
use Rattle.std.specs.Int.{w64}
use mir.Val.{to_z, of_z}
use Rattle.plain_model.specs.declared.command.Command.TheVariants.{Lists}
use Rattle.plain_model.specs.declared.list_command.ListCommand.TheVariants as lists
use Rattle.cmd_lists.proofs.Running.{moved, ran, looked, some_lpush, some_rpush, some_lpushx, some_rpushx}
use Rattle.cmd_lists.proofs.dispatch.run_lists.Goals as goal

pub returns-in-LPush : goal.returns-in-LPush
returns-in-LPush g c = ran g.B.BlockStore.blocks g.B.BlockStore.step c.args.keyspace.now c.lpush.new.keyspace c.args.at.now (Lists c.args.command.now) c.args.command.now
    (lists.LPush c.as_slice.result.now c.as_slice-in-LPush.result.now) c.lpush.result refl (search rules) c.lpush.ensures.gives c.lpush.ensures.kept c.lpush.ensures.forms refl

pub lpush-requires-clause-some : goal.lpush-requires-clause-some
lpush-requires-clause-some g c = some_lpush c.args.command.now c.as_slice.result.now c.as_slice-in-LPush.result.now c.requires.asked (search rules)

pub returns-in-RPush : goal.returns-in-RPush
returns-in-RPush g c = ran g.B.BlockStore.blocks g.B.BlockStore.step c.args.keyspace.now c.rpush.new.keyspace c.args.at.now (Lists c.args.command.now) c.args.command.now
    (lists.RPush c.as_slice-in-RPush.result.now c.as_slice-in-RPush-2.result.now) c.rpush.result refl (search rules) c.rpush.ensures.gives c.rpush.ensures.kept c.rpush.ensures.forms refl

pub rpush-requires-clause-some : goal.rpush-requires-clause-some
rpush-requires-clause-some g c = some_rpush c.args.command.now c.as_slice-in-RPush.result.now c.as_slice-in-RPush-2.result.now c.requires.asked (search rules)

pub returns-in-LPushX : goal.returns-in-LPushX
returns-in-LPushX g c = ran g.B.BlockStore.blocks g.B.BlockStore.step c.args.keyspace.now c.lpushx.new.keyspace c.args.at.now (Lists c.args.command.now) c.args.command.now
    (lists.LPushX c.as_slice-in-LPushX.result.now c.as_slice-in-LPushX-2.result.now) c.lpushx.result refl (search rules) c.lpushx.ensures.gives c.lpushx.ensures.kept c.lpushx.ensures.forms refl

pub lpushx-requires-clause-some : goal.lpushx-requires-clause-some
lpushx-requires-clause-some g c = some_lpushx c.args.command.now c.as_slice-in-LPushX.result.now c.as_slice-in-LPushX-2.result.now c.requires.asked (search rules)

pub returns-in-RPushX : goal.returns-in-RPushX
returns-in-RPushX g c = ran g.B.BlockStore.blocks g.B.BlockStore.step c.args.keyspace.now c.rpushx.new.keyspace c.args.at.now (Lists c.args.command.now) c.args.command.now
    (lists.RPushX c.as_slice-in-RPushX.result.now c.as_slice-in-RPushX-2.result.now) c.rpushx.result refl (search rules) c.rpushx.ensures.gives c.rpushx.ensures.kept c.rpushx.ensures.forms refl

pub rpushx-requires-clause-some : goal.rpushx-requires-clause-some
rpushx-requires-clause-some g c = some_rpushx c.args.command.now c.as_slice-in-RPushX.result.now c.as_slice-in-RPushX-2.result.now c.requires.asked (search rules)

pub returns-in-LPop : goal.returns-in-LPop
returns-in-LPop g c = ran g.B.BlockStore.blocks g.B.BlockStore.step c.args.keyspace.now c.lpop.new.keyspace c.args.at.now (Lists c.args.command.now) c.args.command.now
    (lists.LPop c.as_slice-in-LPop.result.now c.in-LPop.n) c.lpop.result refl (search rules) c.lpop.ensures.gives c.lpop.ensures.kept c.lpop.ensures.forms refl

pub returns-in-RPop : goal.returns-in-RPop
returns-in-RPop g c = ran g.B.BlockStore.blocks g.B.BlockStore.step c.args.keyspace.now c.rpop.new.keyspace c.args.at.now (Lists c.args.command.now) c.args.command.now
    (lists.RPop c.as_slice-in-RPop.result.now c.in-RPop.n) c.rpop.result refl (search rules) c.rpop.ensures.gives c.rpop.ensures.kept c.rpop.ensures.forms refl

pub returns-in-LLen : goal.returns-in-LLen
returns-in-LLen g c = looked g.B.BlockStore.blocks g.B.BlockStore.step c.args.keyspace.now c.args.at.now (Lists c.args.command.now) c.args.command.now
    (lists.LLen c.as_slice-in-LLen.result.now) c.llen.result refl (search rules) c.llen.ensures.gives c.requires.ready refl

pub returns-in-LIndex : goal.returns-in-LIndex
returns-in-LIndex g c = looked g.B.BlockStore.blocks g.B.BlockStore.step c.args.keyspace.now c.args.at.now (Lists c.args.command.now) c.args.command.now
    (lists.LIndex c.as_slice-in-LIndex.result.now (to_z w64 (of_z w64 c.in-LIndex.index))) c.lindex.result refl (search rules) c.lindex.ensures.gives c.requires.ready refl

pub returns-in-LSet : goal.returns-in-LSet
returns-in-LSet g c = ran g.B.BlockStore.blocks g.B.BlockStore.step c.args.keyspace.now c.lset.new.keyspace c.args.at.now (Lists c.args.command.now) c.args.command.now
    (lists.LSet c.as_slice-in-LSet.result.now (to_z w64 (of_z w64 c.in-LSet.index)) c.as_slice-in-LSet-2.result.now) c.lset.result refl (search rules) c.lset.ensures.gives
    c.lset.ensures.kept c.lset.ensures.forms refl

pub returns-in-LRange : goal.returns-in-LRange
returns-in-LRange g c = looked g.B.BlockStore.blocks g.B.BlockStore.step c.args.keyspace.now c.args.at.now (Lists c.args.command.now) c.args.command.now
    (lists.LRange c.as_slice-in-LRange.result.now (to_z w64 (of_z w64 c.in-LRange.a)) (to_z w64 (of_z w64 c.in-LRange.b))) c.lrange.result refl (search rules) c.lrange.ensures.gives
    c.requires.ready refl

pub returns-in-LTrim : goal.returns-in-LTrim
returns-in-LTrim g c = ran g.B.BlockStore.blocks g.B.BlockStore.step c.args.keyspace.now c.ltrim.new.keyspace c.args.at.now (Lists c.args.command.now) c.args.command.now
    (lists.LTrim c.as_slice-in-LTrim.result.now (to_z w64 (of_z w64 c.in-LTrim.a)) (to_z w64 (of_z w64 c.in-LTrim.b))) c.ltrim.result refl (search rules) c.ltrim.ensures.gives
    c.ltrim.ensures.kept c.ltrim.ensures.forms refl

pub returns-in-LInsert : goal.returns-in-LInsert
returns-in-LInsert g c = ran g.B.BlockStore.blocks g.B.BlockStore.step c.args.keyspace.now c.linsert.new.keyspace c.args.at.now (Lists c.args.command.now) c.args.command.now
    (lists.LInsert c.as_slice-in-LInsert.result.now c.in-LInsert.side c.as_slice-in-LInsert-2.result.now c.as_slice-in-LInsert-3.result.now) c.linsert.result refl (search rules)
    c.linsert.ensures.gives c.linsert.ensures.kept c.linsert.ensures.forms refl

pub returns-in-LRem : goal.returns-in-LRem
returns-in-LRem g c = ran g.B.BlockStore.blocks g.B.BlockStore.step c.args.keyspace.now c.lrem.new.keyspace c.args.at.now (Lists c.args.command.now) c.args.command.now
    (lists.LRem c.as_slice-in-LRem.result.now (to_z w64 (of_z w64 c.in-LRem.n)) c.as_slice-in-LRem-2.result.now) c.lrem.result refl (search rules) c.lrem.ensures.gives c.lrem.ensures.kept
    c.lrem.ensures.forms refl

pub returns-in-LPos : goal.returns-in-LPos
returns-in-LPos g c = looked g.B.BlockStore.blocks g.B.BlockStore.step c.args.keyspace.now c.args.at.now (Lists c.args.command.now) c.args.command.now
    (lists.LPos c.as_slice-in-LPos.result.now c.as_slice-in-LPos-2.result.now c.in-LPos.options) c.lpos.result refl (search rules) c.lpos.ensures.gives c.requires.ready refl

pub returns-in-LMove : goal.returns-in-LMove
returns-in-LMove g c = moved g.B.BlockStore.blocks g.B.BlockStore.step c.args.keyspace.now c.lmove.new.keyspace c.args.at.now (Lists c.args.command.now) c.args.command.now
    (lists.LMove c.as_slice-in-LMove.result.now c.as_slice-in-LMove-2.result.now c.in-LMove.end c.in-LMove.other) c.lmove.result refl (search rules) c.lmove.ensures.gives
    c.lmove.ensures.kept c.lmove.ensures.forms

pub returns-in-RPopLPush : goal.returns-in-RPopLPush
returns-in-RPopLPush g c = moved g.B.BlockStore.blocks g.B.BlockStore.step c.args.keyspace.now c.rpoplpush.new.keyspace c.args.at.now (Lists c.args.command.now) c.args.command.now
    (lists.RPopLPush c.as_slice-in-RPopLPush.result.now c.as_slice-in-RPopLPush-2.result.now) c.rpoplpush.result refl (search rules) c.rpoplpush.ensures.gives c.rpoplpush.ensures.kept
    c.rpoplpush.ensures.forms
