use Rattle.std.proofs.Common.{rules, ap, refl}
use Rattle.plain_model.specs.declared.command.Command.TheVariants.{Sets}
use Rattle.plain_model.specs.declared.set_command.SetCommand.TheVariants as sets
use Rattle.plain_model.specs.SetSteps.{set_outcome}
use Rattle.keyspace.specs.Commands.{visible}
use Rattle.keyspace.proofs.Running.{told, ran, nothing_shown}
use Rattle.cmd_sets.proofs.Running.{ran_set, looked_set}
use Rattle.cmd_sets.proofs.Paged.{asked_page}
use Rattle.cmd_sets.proofs.dispatch.run_sets.Goals as goal

pub returns-in-SAdd : goal.returns-in-SAdd
returns-in-SAdd g c = ran_set g.B.BlockStore.blocks g.B.BlockStore.step c.args.keyspace.now c.sadd.new.keyspace c.args.at.now (Sets c.args.command.now)
    (sets.SAdd c.as_slice.result.now c.as_slice-in-SAdd.result.now) c.sadd.result (ap Sets (search rules))
    (told (set_outcome (visible g.B.BlockStore.blocks c.args.keyspace.now c.args.at.now) (sets.SAdd c.as_slice.result.now c.as_slice-in-SAdd.result.now))
    (visible g.B.BlockStore.blocks c.sadd.new.keyspace c.args.at.now) c.sadd.result c.sadd.ensures.gives) c.sadd.ensures.kept (nothing_shown c.sadd.result) c.sadd.ensures.forms refl

pub returns-in-SRem : goal.returns-in-SRem
returns-in-SRem g c = ran_set g.B.BlockStore.blocks g.B.BlockStore.step c.args.keyspace.now c.srem.new.keyspace c.args.at.now (Sets c.args.command.now)
    (sets.SRem c.as_slice-in-SRem.result.now c.as_slice-in-SRem-2.result.now) c.srem.result (ap Sets (search rules))
    (told (set_outcome (visible g.B.BlockStore.blocks c.args.keyspace.now c.args.at.now) (sets.SRem c.as_slice-in-SRem.result.now c.as_slice-in-SRem-2.result.now))
    (visible g.B.BlockStore.blocks c.srem.new.keyspace c.args.at.now) c.srem.result c.srem.ensures.gives) c.srem.ensures.kept c.srem.ensures.settles c.srem.ensures.forms refl

pub returns-in-SIsMember : goal.returns-in-SIsMember
returns-in-SIsMember g c = looked_set g.B.BlockStore.blocks g.B.BlockStore.step c.args.keyspace.now c.args.at.now (Sets c.args.command.now)
    (sets.SIsMember c.as_slice-in-SIsMember.result.now c.as_slice-in-SIsMember-2.result.now) c.sismember.result (ap Sets (search rules))
    (told (set_outcome (visible g.B.BlockStore.blocks c.args.keyspace.now c.args.at.now) (sets.SIsMember c.as_slice-in-SIsMember.result.now c.as_slice-in-SIsMember-2.result.now))
    (visible g.B.BlockStore.blocks c.args.keyspace.now c.args.at.now) c.sismember.result c.sismember.ensures.gives) (nothing_shown c.sismember.result) c.requires.ready refl

pub returns-in-SMIsMember : goal.returns-in-SMIsMember
returns-in-SMIsMember g c = looked_set g.B.BlockStore.blocks g.B.BlockStore.step c.args.keyspace.now c.args.at.now (Sets c.args.command.now)
    (sets.SMIsMember c.as_slice-in-SMIsMember.result.now c.as_slice-in-SMIsMember-2.result.now) c.smismember.result (ap Sets (search rules))
    (told (set_outcome (visible g.B.BlockStore.blocks c.args.keyspace.now c.args.at.now) (sets.SMIsMember c.as_slice-in-SMIsMember.result.now c.as_slice-in-SMIsMember-2.result.now))
    (visible g.B.BlockStore.blocks c.args.keyspace.now c.args.at.now) c.smismember.result c.smismember.ensures.gives) (nothing_shown c.smismember.result) c.requires.ready refl

pub returns-in-SMembers : goal.returns-in-SMembers
returns-in-SMembers g c = looked_set g.B.BlockStore.blocks g.B.BlockStore.step c.args.keyspace.now c.args.at.now (Sets c.args.command.now)
    (sets.SMembers c.as_slice-in-SMembers.result.now) c.smembers.result (ap Sets (search rules)) c.smembers.ensures.gives (nothing_shown c.smembers.result) c.requires.ready refl

pub returns-in-SCard : goal.returns-in-SCard
returns-in-SCard g c = looked_set g.B.BlockStore.blocks g.B.BlockStore.step c.args.keyspace.now c.args.at.now (Sets c.args.command.now) (sets.SCard c.as_slice-in-SCard.result.now)
    c.scard.result (ap Sets (search rules))
    (told (set_outcome (visible g.B.BlockStore.blocks c.args.keyspace.now c.args.at.now) (sets.SCard c.as_slice-in-SCard.result.now))
    (visible g.B.BlockStore.blocks c.args.keyspace.now c.args.at.now) c.scard.result c.scard.ensures.gives) (nothing_shown c.scard.result) c.requires.ready refl

pub returns-in-SMove : goal.returns-in-SMove
returns-in-SMove g c = ran g.B.BlockStore.blocks g.B.BlockStore.step c.args.keyspace.now c.smove.new.keyspace c.args.at.now (Sets c.args.command.now)
    (Sets (sets.SMove c.as_slice-in-SMove.result.now c.as_slice-in-SMove-2.result.now c.as_slice-in-SMove-3.result.now)) c.smove.result (ap Sets (search rules))
    (told
    (set_outcome (visible g.B.BlockStore.blocks c.args.keyspace.now c.args.at.now)
    (sets.SMove c.as_slice-in-SMove.result.now c.as_slice-in-SMove-2.result.now c.as_slice-in-SMove-3.result.now)) (visible g.B.BlockStore.blocks c.smove.new.keyspace c.args.at.now)
    c.smove.result c.smove.ensures.gives) c.smove.ensures.kept c.smove.ensures.settles c.smove.ensures.forms

pub returns-in-SPop : goal.returns-in-SPop
returns-in-SPop g c = ran_set g.B.BlockStore.blocks g.B.BlockStore.step c.args.keyspace.now c.spop.new.keyspace c.args.at.now (Sets c.args.command.now)
    (sets.SPop c.as_slice-in-SPop.result.now c.in-SPop.n) c.spop.result (ap Sets (search rules)) c.spop.ensures.gives c.spop.ensures.kept c.spop.ensures.settles
    c.spop.ensures.forms refl

pub returns-in-SRandMember : goal.returns-in-SRandMember
returns-in-SRandMember g c = looked_set g.B.BlockStore.blocks g.B.BlockStore.step c.args.keyspace.now c.args.at.now (Sets c.args.command.now)
    (sets.SRandMember c.as_slice-in-SRandMember.result.now c.in-SRandMember.n) c.srandmember.result (ap Sets (search rules)) c.srandmember.ensures.gives
    (nothing_shown c.srandmember.result) c.requires.ready refl

pub returns-in-SJoin : goal.returns-in-SJoin
returns-in-SJoin g c = looked_set g.B.BlockStore.blocks g.B.BlockStore.step c.args.keyspace.now c.args.at.now (Sets c.args.command.now)
    (sets.SJoin c.in-SJoin.how c.as_slice-in-SJoin.result.now) c.sjoin.result (ap Sets (search rules)) c.sjoin.ensures.gives (nothing_shown c.sjoin.result) c.requires.ready refl

pub returns-in-SJoinStore : goal.returns-in-SJoinStore
returns-in-SJoinStore g c = ran_set g.B.BlockStore.blocks g.B.BlockStore.step c.args.keyspace.now c.sjoin_store.new.keyspace c.args.at.now (Sets c.args.command.now)
    (sets.SJoinStore c.in-SJoinStore.how c.as_slice-in-SJoinStore.result.now c.as_slice-in-SJoinStore-2.result.now) c.sjoin_store.result (ap Sets (search rules))
    c.sjoin_store.ensures.gives c.sjoin_store.ensures.kept (nothing_shown c.sjoin_store.result) c.sjoin_store.ensures.forms refl

pub returns-in-SInterCard : goal.returns-in-SInterCard
returns-in-SInterCard g c = looked_set g.B.BlockStore.blocks g.B.BlockStore.step c.args.keyspace.now c.args.at.now (Sets c.args.command.now)
    (sets.SInterCard c.as_slice-in-SInterCard.result.now c.in-SInterCard.limit) c.sintercard.result (ap Sets (search rules)) c.sintercard.ensures.gives
    (nothing_shown c.sintercard.result) c.requires.ready refl

pub sscan-requires-clause-count : goal.sscan-requires-clause-count
sscan-requires-clause-count g c = asked_page c.args.command.now _ _ c.in-SScan.options c.requires.asked c.in-SScan.is

pub returns-in-SScan : goal.returns-in-SScan
returns-in-SScan g c = looked_set g.B.BlockStore.blocks g.B.BlockStore.step c.args.keyspace.now c.args.at.now (Sets c.args.command.now)
    (sets.SScan c.as_slice-in-SScan.result.now _ c.in-SScan.options) c.sscan.result (ap Sets (search rules)) c.sscan.ensures.gives c.sscan.ensures.shows c.requires.ready refl
