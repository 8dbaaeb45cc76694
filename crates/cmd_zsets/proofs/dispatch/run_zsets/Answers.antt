use Rattle.std.proofs.Common.{rules, ap, refl}
use Rattle.std.specs.Int.{w64}
use mir.Val.{to_z, of_z}
use Rattle.plain_model.specs.declared.command.Command.TheVariants.{Zsets}
use Rattle.plain_model.specs.declared.zset_command.ZsetCommand.TheVariants as zsets
use Rattle.plain_model.specs.ZsetSteps.{zset_outcome}
use Rattle.keyspace.specs.Commands.{visible}
use Rattle.keyspace.proofs.Running.{told, ran, looked, nothing_shown}
use Rattle.cmd_zsets.proofs.Paged.{asked_page}
use Rattle.cmd_zsets.proofs.dispatch.run_zsets.Goals as goal
use Rattle.keyspace.specs.Forms.{Unwritten}

pub returns-in-ZScore : goal.returns-in-ZScore
returns-in-ZScore g c = looked g.B.BlockStore.blocks g.B.BlockStore.step c.args.keyspace.now c.args.at.now (Zsets c.args.command.now)
    (Zsets (zsets.ZScore c.as_slice.result.now c.as_slice-in-ZScore.result.now)) c.zscore.result (ap Zsets (search rules))
    (told (zset_outcome (visible g.B.BlockStore.blocks c.args.keyspace.now c.args.at.now) (zsets.ZScore c.as_slice.result.now c.as_slice-in-ZScore.result.now))
    (visible g.B.BlockStore.blocks c.args.keyspace.now c.args.at.now) c.zscore.result c.zscore.ensures.gives) (nothing_shown c.zscore.result) c.requires.ready Unwritten (λ reply. refl)

pub returns-in-ZMScore : goal.returns-in-ZMScore
returns-in-ZMScore g c = looked g.B.BlockStore.blocks g.B.BlockStore.step c.args.keyspace.now c.args.at.now (Zsets c.args.command.now)
    (Zsets (zsets.ZMScore c.as_slice-in-ZMScore.result.now c.as_slice-in-ZMScore-2.result.now)) c.zmscore.result (ap Zsets (search rules))
    (told (zset_outcome (visible g.B.BlockStore.blocks c.args.keyspace.now c.args.at.now) (zsets.ZMScore c.as_slice-in-ZMScore.result.now c.as_slice-in-ZMScore-2.result.now))
    (visible g.B.BlockStore.blocks c.args.keyspace.now c.args.at.now) c.zmscore.result c.zmscore.ensures.gives) (nothing_shown c.zmscore.result) c.requires.ready Unwritten (λ reply. refl)

pub returns-in-ZCard : goal.returns-in-ZCard
returns-in-ZCard g c = looked g.B.BlockStore.blocks g.B.BlockStore.step c.args.keyspace.now c.args.at.now (Zsets c.args.command.now) (Zsets (zsets.ZCard c.as_slice-in-ZCard.result.now))
    c.zcard.result (ap Zsets (search rules))
    (told (zset_outcome (visible g.B.BlockStore.blocks c.args.keyspace.now c.args.at.now) (zsets.ZCard c.as_slice-in-ZCard.result.now))
    (visible g.B.BlockStore.blocks c.args.keyspace.now c.args.at.now) c.zcard.result c.zcard.ensures.gives) (nothing_shown c.zcard.result) c.requires.ready Unwritten (λ reply. refl)

pub returns-in-ZCount : goal.returns-in-ZCount
returns-in-ZCount g c = looked g.B.BlockStore.blocks g.B.BlockStore.step c.args.keyspace.now c.args.at.now (Zsets c.args.command.now)
    (Zsets (zsets.ZCount c.as_slice-in-ZCount.result.now c.in-ZCount.min c.in-ZCount.max)) c.zcount.result (ap Zsets (search rules))
    (told (zset_outcome (visible g.B.BlockStore.blocks c.args.keyspace.now c.args.at.now) (zsets.ZCount c.as_slice-in-ZCount.result.now c.in-ZCount.min c.in-ZCount.max))
    (visible g.B.BlockStore.blocks c.args.keyspace.now c.args.at.now) c.zcount.result c.zcount.ensures.gives) (nothing_shown c.zcount.result) c.requires.ready Unwritten (λ reply. refl)

pub returns-in-ZRank : goal.returns-in-ZRank
returns-in-ZRank g c = looked g.B.BlockStore.blocks g.B.BlockStore.step c.args.keyspace.now c.args.at.now (Zsets c.args.command.now)
    (Zsets (zsets.ZRank c.as_slice-in-ZRank.result.now c.as_slice-in-ZRank-2.result.now c.in-ZRank.from c.in-ZRank.with_score)) c.zrank.result (ap Zsets (search rules))
    (told
    (zset_outcome (visible g.B.BlockStore.blocks c.args.keyspace.now c.args.at.now)
    (zsets.ZRank c.as_slice-in-ZRank.result.now c.as_slice-in-ZRank-2.result.now c.in-ZRank.from c.in-ZRank.with_score)) (visible g.B.BlockStore.blocks c.args.keyspace.now c.args.at.now)
    c.zrank.result c.zrank.ensures.gives) (nothing_shown c.zrank.result) c.requires.ready Unwritten (λ reply. refl)

pub returns-in-ZRange : goal.returns-in-ZRange
returns-in-ZRange g c = looked g.B.BlockStore.blocks g.B.BlockStore.step c.args.keyspace.now c.args.at.now (Zsets c.args.command.now)
    (Zsets (zsets.ZRange c.as_slice-in-ZRange.result.now (to_z w64 (of_z w64 c.in-ZRange.a)) (to_z w64 (of_z w64 c.in-ZRange.b)) c.in-ZRange.from c.in-ZRange.with_scores)) c.zrange.result
    (ap Zsets (search rules))
    (told
    (zset_outcome (visible g.B.BlockStore.blocks c.args.keyspace.now c.args.at.now)
    (zsets.ZRange c.as_slice-in-ZRange.result.now (to_z w64 (of_z w64 c.in-ZRange.a)) (to_z w64 (of_z w64 c.in-ZRange.b)) c.in-ZRange.from c.in-ZRange.with_scores))
    (visible g.B.BlockStore.blocks c.args.keyspace.now c.args.at.now) c.zrange.result c.zrange.ensures.gives) (nothing_shown c.zrange.result) c.requires.ready Unwritten (λ reply. refl)

pub returns-in-ZRangeByScore : goal.returns-in-ZRangeByScore
returns-in-ZRangeByScore g c = looked g.B.BlockStore.blocks g.B.BlockStore.step c.args.keyspace.now c.args.at.now (Zsets c.args.command.now)
    (Zsets
    (zsets.ZRangeByScore c.as_slice-in-ZRangeByScore.result.now c.in-ZRangeByScore.min c.in-ZRangeByScore.max c.in-ZRangeByScore.from c.in-ZRangeByScore.limit
    c.in-ZRangeByScore.with_scores)) c.zrangebyscore.result (ap Zsets (search rules))
    (told
    (zset_outcome (visible g.B.BlockStore.blocks c.args.keyspace.now c.args.at.now)
    (zsets.ZRangeByScore c.as_slice-in-ZRangeByScore.result.now c.in-ZRangeByScore.min c.in-ZRangeByScore.max c.in-ZRangeByScore.from c.in-ZRangeByScore.limit
    c.in-ZRangeByScore.with_scores)) (visible g.B.BlockStore.blocks c.args.keyspace.now c.args.at.now) c.zrangebyscore.result c.zrangebyscore.ensures.gives)
    (nothing_shown c.zrangebyscore.result) c.requires.ready Unwritten (λ reply. refl)

pub returns-in-ZAdd : goal.returns-in-ZAdd
returns-in-ZAdd g c = ran g.B.BlockStore.blocks g.B.BlockStore.step c.args.keyspace.now c.zadd.new.keyspace c.args.at.now (Zsets c.args.command.now)
    (Zsets (zsets.ZAdd c.as_slice-in-ZAdd.result.now c.in-ZAdd.rules c.in-ZAdd.ch c.as_slice-in-ZAdd-2.result.now)) c.zadd.result (ap Zsets (search rules))
    (told
    (zset_outcome (visible g.B.BlockStore.blocks c.args.keyspace.now c.args.at.now) (zsets.ZAdd c.as_slice-in-ZAdd.result.now c.in-ZAdd.rules c.in-ZAdd.ch c.as_slice-in-ZAdd-2.result.now))
    (visible g.B.BlockStore.blocks c.zadd.new.keyspace c.args.at.now) c.zadd.result c.zadd.ensures.gives) c.zadd.ensures.kept (nothing_shown c.zadd.result) c.zadd.ensures.forms

pub returns-in-ZIncr : goal.returns-in-ZIncr
returns-in-ZIncr g c = ran g.B.BlockStore.blocks g.B.BlockStore.step c.args.keyspace.now c.zincr.new.keyspace c.args.at.now (Zsets c.args.command.now)
    (Zsets (zsets.ZIncr c.as_slice-in-ZIncr.result.now c.in-ZIncr.rules (to_z w64 (of_z w64 c.in-ZIncr.by)) c.as_slice-in-ZIncr-2.result.now)) c.zincr.result (ap Zsets (search rules))
    (told
    (zset_outcome (visible g.B.BlockStore.blocks c.args.keyspace.now c.args.at.now)
    (zsets.ZIncr c.as_slice-in-ZIncr.result.now c.in-ZIncr.rules (to_z w64 (of_z w64 c.in-ZIncr.by)) c.as_slice-in-ZIncr-2.result.now))
    (visible g.B.BlockStore.blocks c.zincr.new.keyspace c.args.at.now) c.zincr.result c.zincr.ensures.gives) c.zincr.ensures.kept (nothing_shown c.zincr.result) c.zincr.ensures.forms

pub returns-in-ZRem : goal.returns-in-ZRem
returns-in-ZRem g c = ran g.B.BlockStore.blocks g.B.BlockStore.step c.args.keyspace.now c.zrem.new.keyspace c.args.at.now (Zsets c.args.command.now)
    (Zsets (zsets.ZRem c.as_slice-in-ZRem.result.now c.as_slice-in-ZRem-2.result.now)) c.zrem.result (ap Zsets (search rules))
    (told (zset_outcome (visible g.B.BlockStore.blocks c.args.keyspace.now c.args.at.now) (zsets.ZRem c.as_slice-in-ZRem.result.now c.as_slice-in-ZRem-2.result.now))
    (visible g.B.BlockStore.blocks c.zrem.new.keyspace c.args.at.now) c.zrem.result c.zrem.ensures.gives) c.zrem.ensures.kept c.zrem.ensures.settles c.zrem.ensures.forms

pub returns-in-ZRemRangeByRank : goal.returns-in-ZRemRangeByRank
returns-in-ZRemRangeByRank g c = ran g.B.BlockStore.blocks g.B.BlockStore.step c.args.keyspace.now c.zremrangebyrank.new.keyspace c.args.at.now (Zsets c.args.command.now)
    (Zsets (zsets.ZRemRangeByRank c.as_slice-in-ZRemRangeByRank.result.now (to_z w64 (of_z w64 c.in-ZRemRangeByRank.a)) (to_z w64 (of_z w64 c.in-ZRemRangeByRank.b))))
    c.zremrangebyrank.result (ap Zsets (search rules))
    (told
    (zset_outcome (visible g.B.BlockStore.blocks c.args.keyspace.now c.args.at.now)
    (zsets.ZRemRangeByRank c.as_slice-in-ZRemRangeByRank.result.now (to_z w64 (of_z w64 c.in-ZRemRangeByRank.a)) (to_z w64 (of_z w64 c.in-ZRemRangeByRank.b))))
    (visible g.B.BlockStore.blocks c.zremrangebyrank.new.keyspace c.args.at.now) c.zremrangebyrank.result c.zremrangebyrank.ensures.gives) c.zremrangebyrank.ensures.kept
    c.zremrangebyrank.ensures.settles c.zremrangebyrank.ensures.forms

pub returns-in-ZRemRangeByScore : goal.returns-in-ZRemRangeByScore
returns-in-ZRemRangeByScore g c = ran g.B.BlockStore.blocks g.B.BlockStore.step c.args.keyspace.now c.zremrangebyscore.new.keyspace c.args.at.now (Zsets c.args.command.now)
    (Zsets (zsets.ZRemRangeByScore c.as_slice-in-ZRemRangeByScore.result.now c.in-ZRemRangeByScore.min c.in-ZRemRangeByScore.max)) c.zremrangebyscore.result (ap Zsets (search rules))
    (told
    (zset_outcome (visible g.B.BlockStore.blocks c.args.keyspace.now c.args.at.now)
    (zsets.ZRemRangeByScore c.as_slice-in-ZRemRangeByScore.result.now c.in-ZRemRangeByScore.min c.in-ZRemRangeByScore.max))
    (visible g.B.BlockStore.blocks c.zremrangebyscore.new.keyspace c.args.at.now) c.zremrangebyscore.result c.zremrangebyscore.ensures.gives) c.zremrangebyscore.ensures.kept
    c.zremrangebyscore.ensures.settles c.zremrangebyscore.ensures.forms

pub returns-in-ZPop : goal.returns-in-ZPop
returns-in-ZPop g c = ran g.B.BlockStore.blocks g.B.BlockStore.step c.args.keyspace.now c.zpop.new.keyspace c.args.at.now (Zsets c.args.command.now)
    (Zsets (zsets.ZPop c.as_slice-in-ZPop.result.now c.in-ZPop.from c.in-ZPop.most)) c.zpop.result (ap Zsets (search rules))
    (told (zset_outcome (visible g.B.BlockStore.blocks c.args.keyspace.now c.args.at.now) (zsets.ZPop c.as_slice-in-ZPop.result.now c.in-ZPop.from c.in-ZPop.most))
    (visible g.B.BlockStore.blocks c.zpop.new.keyspace c.args.at.now) c.zpop.result c.zpop.ensures.gives) c.zpop.ensures.kept c.zpop.ensures.settles c.zpop.ensures.forms

pub returns-in-ZRandMember : goal.returns-in-ZRandMember
returns-in-ZRandMember g c = looked g.B.BlockStore.blocks g.B.BlockStore.step c.args.keyspace.now c.args.at.now (Zsets c.args.command.now)
    (Zsets (zsets.ZRandMember c.as_slice-in-ZRandMember.result.now c.in-ZRandMember.n c.in-ZRandMember.with_scores)) c.zrandmember.result (ap Zsets (search rules))
    c.zrandmember.ensures.gives (nothing_shown c.zrandmember.result) c.requires.ready Unwritten (λ reply. refl)

pub returns-in-ZJoinStore : goal.returns-in-ZJoinStore
returns-in-ZJoinStore g c = ran g.B.BlockStore.blocks g.B.BlockStore.step c.args.keyspace.now c.zjoin_store.new.keyspace c.args.at.now (Zsets c.args.command.now)
    (Zsets (zsets.ZJoinStore c.in-ZJoinStore.join c.as_slice-in-ZJoinStore.result.now c.as_slice-in-ZJoinStore-2.result.now c.in-ZJoinStore.how)) c.zjoin_store.result
    (ap Zsets (search rules)) c.zjoin_store.ensures.gives c.zjoin_store.ensures.kept (nothing_shown c.zjoin_store.result) c.zjoin_store.ensures.forms

pub zscan-requires-clause-count : goal.zscan-requires-clause-count
zscan-requires-clause-count g c = asked_page c.args.command.now _ _ c.in-ZScan.options c.requires.asked c.in-ZScan.is

pub returns-in-ZScan : goal.returns-in-ZScan
returns-in-ZScan g c = looked g.B.BlockStore.blocks g.B.BlockStore.step c.args.keyspace.now c.args.at.now (Zsets c.args.command.now)
    (Zsets (zsets.ZScan c.as_slice-in-ZScan.result.now _ c.in-ZScan.options)) c.zscan.result (ap Zsets (search rules)) c.zscan.ensures.gives c.zscan.ensures.shows c.requires.ready Unwritten
    (λ reply. refl)
