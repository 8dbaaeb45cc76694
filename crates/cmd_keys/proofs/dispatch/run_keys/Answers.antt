use mir.Val.{to_z, of_z}
use Rattle.std.specs.Int.{w64}
use Rattle.std.proofs.Common.{rules}
use Rattle.plain_model.specs.declared.keys.KeyCommand.TheVariants as keys
use Rattle.keyspace.proofs.Running.{nothing_shown}
use Rattle.cmd_keys.proofs.KeyLemmas.{asked_scan, ran_keys, removed_keys, asked_copy, asked_move, asked_keys, told_keys, and_stays}
use Rattle.cmd_keys.proofs.dispatch.run_keys.Goals as goal

pub copy-requires-clause-database : goal.copy-requires-clause-database
copy-requires-clause-database g c = asked_copy c.args.command.now _ _ c.in-Copy.options c.requires.asked c.in-Copy.is

pub move_key-requires-clause-number : goal.move_key-requires-clause-number
move_key-requires-clause-number g c = asked_move c.args.command.now _ c.in-MoveKey.number c.requires.asked c.in-MoveKey.is

pub returns-in-Exists : goal.returns-in-Exists
returns-in-Exists g c = told_keys g.B.BlockStore.blocks g.B.BlockStore.step c.args.keyspace.now c.args.at.now c.args.command.now (keys.Exists c.as_slice-in-Exists.result.now)
    c.exists.result (λ reply new o. o) (λ reply. tt) (search rules) c.exists.ensures c.requires.ready

pub returns-in-Touch : goal.returns-in-Touch
returns-in-Touch g c = told_keys g.B.BlockStore.blocks g.B.BlockStore.step c.args.keyspace.now c.args.at.now c.args.command.now (keys.Touch c.as_slice-in-Touch.result.now) c.touch.result
    (λ reply new o. o) (λ reply. tt) (search rules) c.touch.ensures c.requires.ready

pub returns-in-TypeOf : goal.returns-in-TypeOf
returns-in-TypeOf g c = told_keys g.B.BlockStore.blocks g.B.BlockStore.step c.args.keyspace.now c.args.at.now c.args.command.now (keys.TypeOf c.as_slice-in-TypeOf.result.now)
    c.type_of.result (λ reply new o. o) (λ reply. tt) (search rules) c.type_of.ensures c.requires.ready

pub returns-in-Ttl : goal.returns-in-Ttl
returns-in-Ttl g c = told_keys g.B.BlockStore.blocks g.B.BlockStore.step c.args.keyspace.now c.args.at.now c.args.command.now (keys.Ttl c.as_slice-in-Ttl.result.now) c.ttl.result
    (λ reply new o. o) (λ reply. tt) (search rules) c.ttl.ensures c.requires.ready

pub returns-in-PTtl : goal.returns-in-PTtl
returns-in-PTtl g c = told_keys g.B.BlockStore.blocks g.B.BlockStore.step c.args.keyspace.now c.args.at.now c.args.command.now (keys.PTtl c.as_slice-in-PTtl.result.now) c.pttl.result
    (λ reply new o. o) (λ reply. tt) (search rules) c.pttl.ensures c.requires.ready

pub returns-in-ExpireTime : goal.returns-in-ExpireTime
returns-in-ExpireTime g c = told_keys g.B.BlockStore.blocks g.B.BlockStore.step c.args.keyspace.now c.args.at.now c.args.command.now (keys.ExpireTime c.as_slice-in-ExpireTime.result.now)
    c.expiretime.result (λ reply new o. o) (λ reply. tt) (search rules) c.expiretime.ensures c.requires.ready

pub returns-in-PExpireTime : goal.returns-in-PExpireTime
returns-in-PExpireTime g c = told_keys g.B.BlockStore.blocks g.B.BlockStore.step c.args.keyspace.now c.args.at.now c.args.command.now
    (keys.PExpireTime c.as_slice-in-PExpireTime.result.now) c.pexpiretime.result (λ reply new o. o) (λ reply. tt) (search rules) c.pexpiretime.ensures c.requires.ready

pub returns-in-RandomKey : goal.returns-in-RandomKey
returns-in-RandomKey g c = asked_keys g.B.BlockStore.blocks g.B.BlockStore.step c.args.keyspace.now c.args.at.now c.args.command.now keys.RandomKey c.randomkey.result c.in-RandomKey.is
    (and_stays _ _ c.randomkey.result c.randomkey.ensures) (nothing_shown c.randomkey.result) c.requires.ready

pub returns-in-ObjectEncoding : goal.returns-in-ObjectEncoding
returns-in-ObjectEncoding g c = asked_keys g.B.BlockStore.blocks g.B.BlockStore.step c.args.keyspace.now c.args.at.now c.args.command.now
    (keys.ObjectEncoding c.as_slice-in-ObjectEncoding.result.now) c.object_encoding.result (search rules) (and_stays _ _ c.object_encoding.result c.object_encoding.ensures.gives)
    c.object_encoding.ensures.actual c.requires.ready

pub returns-in-Del : goal.returns-in-Del
returns-in-Del g c = removed_keys g.B.BlockStore.blocks g.B.BlockStore.step c.args.keyspace.now c.del.new.keyspace c.args.at.now c.args.command.now (keys.Del c.as_slice.result.now)
    c.del.result (λ reply world o. o) (λ reply. tt) (λ number key named. named.1) (search rules) c.del.ensures.gives c.del.ensures.kept

pub returns-in-Unlink : goal.returns-in-Unlink
returns-in-Unlink g c = removed_keys g.B.BlockStore.blocks g.B.BlockStore.step c.args.keyspace.now c.unlink.new.keyspace c.args.at.now c.args.command.now
    (keys.Unlink c.as_slice-in-Unlink.result.now) c.unlink.result (λ reply world o. o) (λ reply. tt) (λ number key named. named.1) (search rules) c.unlink.ensures.gives
    c.unlink.ensures.kept

pub returns-in-Persist : goal.returns-in-Persist
returns-in-Persist g c = removed_keys g.B.BlockStore.blocks g.B.BlockStore.step c.args.keyspace.now c.persist.new.keyspace c.args.at.now c.args.command.now
    (keys.Persist c.as_slice-in-Persist.result.now) c.persist.result (λ reply world o. o) (λ reply. tt) (λ number key named. named.1) (search rules) c.persist.ensures.gives
    c.persist.ensures.kept

pub returns-in-Expire : goal.returns-in-Expire
returns-in-Expire g c = removed_keys g.B.BlockStore.blocks g.B.BlockStore.step c.args.keyspace.now c.expire.new.keyspace c.args.at.now c.args.command.now
    (keys.Expire c.as_slice-in-Expire.result.now (to_z w64 (of_z w64 c.in-Expire.n)) c.in-Expire.options) c.expire.result (λ reply world o. o) (λ reply. tt) (λ number key named. named.1)
    (search rules) c.expire.ensures.gives c.expire.ensures.kept

pub returns-in-PExpire : goal.returns-in-PExpire
returns-in-PExpire g c = removed_keys g.B.BlockStore.blocks g.B.BlockStore.step c.args.keyspace.now c.pexpire.new.keyspace c.args.at.now c.args.command.now
    (keys.PExpire c.as_slice-in-PExpire.result.now (to_z w64 (of_z w64 c.in-PExpire.n)) c.in-PExpire.options) c.pexpire.result (λ reply world o. o) (λ reply. tt)
    (λ number key named. named.1) (search rules) c.pexpire.ensures.gives c.pexpire.ensures.kept

pub returns-in-ExpireAt : goal.returns-in-ExpireAt
returns-in-ExpireAt g c = removed_keys g.B.BlockStore.blocks g.B.BlockStore.step c.args.keyspace.now c.expireat.new.keyspace c.args.at.now c.args.command.now
    (keys.ExpireAt c.as_slice-in-ExpireAt.result.now (to_z w64 (of_z w64 c.in-ExpireAt.n)) c.in-ExpireAt.options) c.expireat.result (λ reply world o. o) (λ reply. tt)
    (λ number key named. named.1) (search rules) c.expireat.ensures.gives c.expireat.ensures.kept

pub returns-in-PExpireAt : goal.returns-in-PExpireAt
returns-in-PExpireAt g c = removed_keys g.B.BlockStore.blocks g.B.BlockStore.step c.args.keyspace.now c.pexpireat.new.keyspace c.args.at.now c.args.command.now
    (keys.PExpireAt c.as_slice-in-PExpireAt.result.now (to_z w64 (of_z w64 c.in-PExpireAt.n)) c.in-PExpireAt.options) c.pexpireat.result (λ reply world o. o) (λ reply. tt)
    (λ number key named. named.1) (search rules) c.pexpireat.ensures.gives c.pexpireat.ensures.kept

pub scan-requires-clause-count : goal.scan-requires-clause-count
scan-requires-clause-count g c = asked_scan c.args.command.now _ c.in-Scan.options c.requires.asked c.in-Scan.is

pub returns-in-KeysLike : goal.returns-in-KeysLike
returns-in-KeysLike g c = asked_keys g.B.BlockStore.blocks g.B.BlockStore.step c.args.keyspace.now c.args.at.now c.args.command.now (keys.KeysLike c.as_slice-in-KeysLike.result.now)
    c.keys_like.result (search rules) (and_stays _ _ c.keys_like.result c.keys_like.ensures) (nothing_shown c.keys_like.result) c.requires.ready

pub returns-in-Scan : goal.returns-in-Scan
returns-in-Scan g c = asked_keys g.B.BlockStore.blocks g.B.BlockStore.step c.args.keyspace.now c.args.at.now c.args.command.now (keys.Scan _ c.in-Scan.options) c.scan.result (search rules)
    (and_stays _ _ c.scan.result c.scan.ensures.page) c.scan.ensures.table c.requires.ready

pub returns-in-Rename : goal.returns-in-Rename
returns-in-Rename g c = ran_keys g.B.BlockStore.blocks g.B.BlockStore.step c.args.keyspace.now c.rename.new.keyspace c.args.at.now c.args.command.now
    (keys.Rename c.as_slice-in-Rename.result.now c.as_slice-in-Rename-2.result.now) c.rename.result (λ reply world o. o) (λ reply. tt) (search rules) c.rename.ensures.gives
    c.rename.ensures.kept c.rename.ensures.forms

pub returns-in-RenameNx : goal.returns-in-RenameNx
returns-in-RenameNx g c = ran_keys g.B.BlockStore.blocks g.B.BlockStore.step c.args.keyspace.now c.renamenx.new.keyspace c.args.at.now c.args.command.now
    (keys.RenameNx c.as_slice-in-RenameNx.result.now c.as_slice-in-RenameNx-2.result.now) c.renamenx.result (λ reply world o. o) (λ reply. tt) (search rules) c.renamenx.ensures.gives
    c.renamenx.ensures.kept c.renamenx.ensures.forms

pub returns-in-Copy : goal.returns-in-Copy
returns-in-Copy g c = ran_keys g.B.BlockStore.blocks g.B.BlockStore.step c.args.keyspace.now c.copy.new.keyspace c.args.at.now c.args.command.now
    (keys.Copy c.as_slice-in-Copy.result.now c.as_slice-in-Copy-2.result.now c.in-Copy.options) c.copy.result (λ reply world o. o) (λ reply. tt) (search rules) c.copy.ensures.gives
    c.copy.ensures.kept c.copy.ensures.forms

pub returns-in-MoveKey : goal.returns-in-MoveKey
returns-in-MoveKey g c = ran_keys g.B.BlockStore.blocks g.B.BlockStore.step c.args.keyspace.now c.move_key.new.keyspace c.args.at.now c.args.command.now
    (keys.MoveKey c.as_slice-in-MoveKey.result.now c.in-MoveKey.number) c.move_key.result (λ reply world o. o) (λ reply. tt) (search rules) c.move_key.ensures.gives c.move_key.ensures.kept
    c.move_key.ensures.forms
