use Rattle.std.proofs.Common.{rules, ap, refl}
use Rattle.std.specs.Int.{w64}
use mir.Val.{to_z, of_z}
use Rattle.plain_model.specs.declared.command.Command.TheVariants.{Hashes}
use Rattle.plain_model.specs.declared.hash_command.HashCommand.TheVariants as hashes
use Rattle.plain_model.specs.HashSteps.{hash_outcome}
use Rattle.keyspace.specs.Commands.{visible}
use Rattle.keyspace.proofs.Running.{told, ran, looked, nothing_shown}
use Rattle.cmd_hashes.proofs.Paged.{asked_page}
use Rattle.cmd_hashes.proofs.dispatch.run_hashes.Goals as goal
use Rattle.keyspace.specs.Forms.{Unwritten}

pub returns-in-HSet : goal.returns-in-HSet
returns-in-HSet g c = ran g.B.BlockStore.blocks g.B.BlockStore.step c.args.keyspace.now c.hset.new.keyspace c.args.at.now (Hashes c.args.command.now)
    (Hashes (hashes.HSet c.as_slice.result.now c.as_slice-in-HSet.result.now)) c.hset.result (ap Hashes (search rules))
    (told (hash_outcome (visible g.B.BlockStore.blocks c.args.keyspace.now c.args.at.now) (hashes.HSet c.as_slice.result.now c.as_slice-in-HSet.result.now))
    (visible g.B.BlockStore.blocks c.hset.new.keyspace c.args.at.now) c.hset.result c.hset.ensures.gives) c.hset.ensures.kept (nothing_shown c.hset.result) c.hset.ensures.forms

pub returns-in-HMSet : goal.returns-in-HMSet
returns-in-HMSet g c = ran g.B.BlockStore.blocks g.B.BlockStore.step c.args.keyspace.now c.hmset.new.keyspace c.args.at.now (Hashes c.args.command.now)
    (Hashes (hashes.HMSet c.as_slice-in-HMSet.result.now c.as_slice-in-HMSet-2.result.now)) c.hmset.result (ap Hashes (search rules))
    (told (hash_outcome (visible g.B.BlockStore.blocks c.args.keyspace.now c.args.at.now) (hashes.HMSet c.as_slice-in-HMSet.result.now c.as_slice-in-HMSet-2.result.now))
    (visible g.B.BlockStore.blocks c.hmset.new.keyspace c.args.at.now) c.hmset.result c.hmset.ensures.gives) c.hmset.ensures.kept (nothing_shown c.hmset.result) c.hmset.ensures.forms

pub returns-in-HSetNx : goal.returns-in-HSetNx
returns-in-HSetNx g c = ran g.B.BlockStore.blocks g.B.BlockStore.step c.args.keyspace.now c.hsetnx.new.keyspace c.args.at.now (Hashes c.args.command.now)
    (Hashes (hashes.HSetNx c.as_slice-in-HSetNx.result.now c.as_slice-in-HSetNx-2.result.now c.as_slice-in-HSetNx-3.result.now)) c.hsetnx.result (ap Hashes (search rules))
    (told
    (hash_outcome (visible g.B.BlockStore.blocks c.args.keyspace.now c.args.at.now)
    (hashes.HSetNx c.as_slice-in-HSetNx.result.now c.as_slice-in-HSetNx-2.result.now c.as_slice-in-HSetNx-3.result.now)) (visible g.B.BlockStore.blocks c.hsetnx.new.keyspace c.args.at.now)
    c.hsetnx.result c.hsetnx.ensures.gives) c.hsetnx.ensures.kept (nothing_shown c.hsetnx.result) c.hsetnx.ensures.forms

pub returns-in-HGet : goal.returns-in-HGet
returns-in-HGet g c = looked g.B.BlockStore.blocks g.B.BlockStore.step c.args.keyspace.now c.args.at.now (Hashes c.args.command.now)
    (Hashes (hashes.HGet c.as_slice-in-HGet.result.now c.as_slice-in-HGet-2.result.now)) c.hget.result (ap Hashes (search rules))
    (told (hash_outcome (visible g.B.BlockStore.blocks c.args.keyspace.now c.args.at.now) (hashes.HGet c.as_slice-in-HGet.result.now c.as_slice-in-HGet-2.result.now))
    (visible g.B.BlockStore.blocks c.args.keyspace.now c.args.at.now) c.hget.result c.hget.ensures.gives) (nothing_shown c.hget.result) c.requires.ready Unwritten (λ reply. refl)

pub returns-in-HMGet : goal.returns-in-HMGet
returns-in-HMGet g c = looked g.B.BlockStore.blocks g.B.BlockStore.step c.args.keyspace.now c.args.at.now (Hashes c.args.command.now)
    (Hashes (hashes.HMGet c.as_slice-in-HMGet.result.now c.as_slice-in-HMGet-2.result.now)) c.hmget.result (ap Hashes (search rules))
    (told (hash_outcome (visible g.B.BlockStore.blocks c.args.keyspace.now c.args.at.now) (hashes.HMGet c.as_slice-in-HMGet.result.now c.as_slice-in-HMGet-2.result.now))
    (visible g.B.BlockStore.blocks c.args.keyspace.now c.args.at.now) c.hmget.result c.hmget.ensures.gives) (nothing_shown c.hmget.result) c.requires.ready Unwritten (λ reply. refl)

pub returns-in-HDel : goal.returns-in-HDel
returns-in-HDel g c = ran g.B.BlockStore.blocks g.B.BlockStore.step c.args.keyspace.now c.hdel.new.keyspace c.args.at.now (Hashes c.args.command.now)
    (Hashes (hashes.HDel c.as_slice-in-HDel.result.now c.as_slice-in-HDel-2.result.now)) c.hdel.result (ap Hashes (search rules))
    (told (hash_outcome (visible g.B.BlockStore.blocks c.args.keyspace.now c.args.at.now) (hashes.HDel c.as_slice-in-HDel.result.now c.as_slice-in-HDel-2.result.now))
    (visible g.B.BlockStore.blocks c.hdel.new.keyspace c.args.at.now) c.hdel.result c.hdel.ensures.gives) c.hdel.ensures.kept c.hdel.ensures.settles c.hdel.ensures.forms

pub returns-in-HExists : goal.returns-in-HExists
returns-in-HExists g c = looked g.B.BlockStore.blocks g.B.BlockStore.step c.args.keyspace.now c.args.at.now (Hashes c.args.command.now)
    (Hashes (hashes.HExists c.as_slice-in-HExists.result.now c.as_slice-in-HExists-2.result.now)) c.hexists.result (ap Hashes (search rules))
    (told (hash_outcome (visible g.B.BlockStore.blocks c.args.keyspace.now c.args.at.now) (hashes.HExists c.as_slice-in-HExists.result.now c.as_slice-in-HExists-2.result.now))
    (visible g.B.BlockStore.blocks c.args.keyspace.now c.args.at.now) c.hexists.result c.hexists.ensures.gives) (nothing_shown c.hexists.result) c.requires.ready Unwritten (λ reply. refl)

pub returns-in-HLen : goal.returns-in-HLen
returns-in-HLen g c = looked g.B.BlockStore.blocks g.B.BlockStore.step c.args.keyspace.now c.args.at.now (Hashes c.args.command.now) (Hashes (hashes.HLen c.as_slice-in-HLen.result.now))
    c.hlen.result (ap Hashes (search rules))
    (told (hash_outcome (visible g.B.BlockStore.blocks c.args.keyspace.now c.args.at.now) (hashes.HLen c.as_slice-in-HLen.result.now))
    (visible g.B.BlockStore.blocks c.args.keyspace.now c.args.at.now) c.hlen.result c.hlen.ensures.gives) (nothing_shown c.hlen.result) c.requires.ready Unwritten (λ reply. refl)

pub returns-in-HStrLen : goal.returns-in-HStrLen
returns-in-HStrLen g c = looked g.B.BlockStore.blocks g.B.BlockStore.step c.args.keyspace.now c.args.at.now (Hashes c.args.command.now)
    (Hashes (hashes.HStrLen c.as_slice-in-HStrLen.result.now c.as_slice-in-HStrLen-2.result.now)) c.hstrlen.result (ap Hashes (search rules))
    (told (hash_outcome (visible g.B.BlockStore.blocks c.args.keyspace.now c.args.at.now) (hashes.HStrLen c.as_slice-in-HStrLen.result.now c.as_slice-in-HStrLen-2.result.now))
    (visible g.B.BlockStore.blocks c.args.keyspace.now c.args.at.now) c.hstrlen.result c.hstrlen.ensures.gives) (nothing_shown c.hstrlen.result) c.requires.ready Unwritten (λ reply. refl)

pub returns-in-HKeys : goal.returns-in-HKeys
returns-in-HKeys g c = looked g.B.BlockStore.blocks g.B.BlockStore.step c.args.keyspace.now c.args.at.now (Hashes c.args.command.now) (Hashes (hashes.HKeys c.as_slice-in-HKeys.result.now))
    c.hkeys.result (ap Hashes (search rules)) c.hkeys.ensures.gives (nothing_shown c.hkeys.result) c.requires.ready Unwritten (λ reply. refl)

pub returns-in-HVals : goal.returns-in-HVals
returns-in-HVals g c = looked g.B.BlockStore.blocks g.B.BlockStore.step c.args.keyspace.now c.args.at.now (Hashes c.args.command.now) (Hashes (hashes.HVals c.as_slice-in-HVals.result.now))
    c.hvals.result (ap Hashes (search rules)) c.hvals.ensures.gives (nothing_shown c.hvals.result) c.requires.ready Unwritten (λ reply. refl)

pub returns-in-HGetAll : goal.returns-in-HGetAll
returns-in-HGetAll g c = looked g.B.BlockStore.blocks g.B.BlockStore.step c.args.keyspace.now c.args.at.now (Hashes c.args.command.now)
    (Hashes (hashes.HGetAll c.as_slice-in-HGetAll.result.now)) c.hgetall.result (ap Hashes (search rules)) c.hgetall.ensures.gives (nothing_shown c.hgetall.result) c.requires.ready Unwritten
    (λ reply. refl)

pub returns-in-HIncrBy : goal.returns-in-HIncrBy
returns-in-HIncrBy g c = ran g.B.BlockStore.blocks g.B.BlockStore.step c.args.keyspace.now c.hincrby.new.keyspace c.args.at.now (Hashes c.args.command.now)
    (Hashes (hashes.HIncrBy c.as_slice-in-HIncrBy.result.now c.as_slice-in-HIncrBy-2.result.now (to_z w64 (of_z w64 c.in-HIncrBy.n)))) c.hincrby.result (ap Hashes (search rules))
    (told
    (hash_outcome (visible g.B.BlockStore.blocks c.args.keyspace.now c.args.at.now)
    (hashes.HIncrBy c.as_slice-in-HIncrBy.result.now c.as_slice-in-HIncrBy-2.result.now (to_z w64 (of_z w64 c.in-HIncrBy.n))))
    (visible g.B.BlockStore.blocks c.hincrby.new.keyspace c.args.at.now) c.hincrby.result c.hincrby.ensures.gives) c.hincrby.ensures.kept (nothing_shown c.hincrby.result)
    c.hincrby.ensures.forms

pub returns-in-HRandField : goal.returns-in-HRandField
returns-in-HRandField g c = looked g.B.BlockStore.blocks g.B.BlockStore.step c.args.keyspace.now c.args.at.now (Hashes c.args.command.now)
    (Hashes (hashes.HRandField c.as_slice-in-HRandField.result.now c.in-HRandField.n c.in-HRandField.with_values)) c.hrandfield.result (ap Hashes (search rules)) c.hrandfield.ensures.gives
    (nothing_shown c.hrandfield.result) c.requires.ready Unwritten (λ reply. refl)

pub hscan-requires-clause-count : goal.hscan-requires-clause-count
hscan-requires-clause-count g c = asked_page c.args.command.now _ _ c.in-HScan.options c.requires.asked c.in-HScan.is

pub returns-in-HScan : goal.returns-in-HScan
returns-in-HScan g c = looked g.B.BlockStore.blocks g.B.BlockStore.step c.args.keyspace.now c.args.at.now (Hashes c.args.command.now)
    (Hashes (hashes.HScan c.as_slice-in-HScan.result.now _ c.in-HScan.options)) c.hscan.result (ap Hashes (search rules)) c.hscan.ensures.gives c.hscan.ensures.shows c.requires.ready
    Unwritten (λ reply. refl)
