use Rattle.std.proofs.Common.{rules, refl, sym, ap, ◌∙◌}
use Rattle.std.specs.Int.{w64}
use mir.Val.{to_z, of_z}
use Rattle.plain_model.specs.declared.command.Command.TheVariants.{Strings}
use Rattle.plain_model.specs.declared.command.StringCommand.TheVariants as strings
use Rattle.cmd_values.proofs.StringLemmas.{asked_fits, looked_strings, removed_strings, ran_strings}
use Rattle.cmd_values.proofs.strings.dispatch.run_strings.Goals as goal

pub setrange-requires-clause-room : goal.setrange-requires-clause-room
setrange-requires-clause-room g c =
    asked_fits (Strings c.args.command.now) c.args.command.now _ c.as_slice-in-SetRange-2.result.now c.in-SetRange.place c.requires.asked refl
    (c.in-SetRange.is ∙ ap (strings.SetRange c.in-SetRange.key c.in-SetRange.place) (sym c.as_slice-in-SetRange-2.ensures))

pub returns-in-GetRange : goal.returns-in-GetRange
returns-in-GetRange g c =
    looked_strings _ _ c.args.keyspace.now c.args.at.now (Strings c.args.command.now) c.args.command.now
    (strings.GetRange c.as_slice-in-GetRange.result.now (to_z w64 (of_z w64 c.in-GetRange.a)) (to_z w64 (of_z w64 c.in-GetRange.b))) c.getrange.result
    refl (search rules) c.getrange.ensures c.requires.ready refl

pub returns-in-Set : goal.returns-in-Set
returns-in-Set g c =
    ran_strings g.B.BlockStore.blocks g.B.BlockStore.step c.args.keyspace.now c.set.new.keyspace c.args.at.now (Strings c.args.command.now) c.args.command.now
    (strings.Set c.as_slice-in-Set.result.now c.as_slice-in-Set-2.result.now c.in-Set.options) c.set.result refl (search rules) c.set.ensures.gives c.set.ensures.kept
    c.set.ensures.forms

pub returns-in-SetNx : goal.returns-in-SetNx
returns-in-SetNx g c =
    ran_strings g.B.BlockStore.blocks g.B.BlockStore.step c.args.keyspace.now c.setnx.new.keyspace c.args.at.now (Strings c.args.command.now) c.args.command.now
    (strings.SetNx c.as_slice-in-SetNx.result.now c.as_slice-in-SetNx-2.result.now) c.setnx.result refl (search rules) c.setnx.ensures.gives c.setnx.ensures.kept c.setnx.ensures.forms

pub returns-in-SetEx : goal.returns-in-SetEx
returns-in-SetEx g c =
    ran_strings g.B.BlockStore.blocks g.B.BlockStore.step c.args.keyspace.now c.setex.new.keyspace c.args.at.now (Strings c.args.command.now) c.args.command.now
    (strings.SetEx c.as_slice-in-SetEx.result.now (to_z w64 (of_z w64 c.in-SetEx.n)) c.as_slice-in-SetEx-2.result.now) c.setex.result refl (search rules) c.setex.ensures.gives
    c.setex.ensures.kept c.setex.ensures.forms

pub returns-in-PSetEx : goal.returns-in-PSetEx
returns-in-PSetEx g c =
    ran_strings g.B.BlockStore.blocks g.B.BlockStore.step c.args.keyspace.now c.psetex.new.keyspace c.args.at.now (Strings c.args.command.now) c.args.command.now
    (strings.PSetEx c.as_slice-in-PSetEx.result.now (to_z w64 (of_z w64 c.in-PSetEx.n)) c.as_slice-in-PSetEx-2.result.now) c.psetex.result refl (search rules) c.psetex.ensures.gives
    c.psetex.ensures.kept c.psetex.ensures.forms

pub returns-in-GetEx : goal.returns-in-GetEx
returns-in-GetEx g c =
    removed_strings g.B.BlockStore.blocks g.B.BlockStore.step c.args.keyspace.now c.getex.new.keyspace c.args.at.now (Strings c.args.command.now) c.args.command.now
    (strings.GetEx c.as_slice-in-GetEx.result.now c.in-GetEx.renewal) c.getex.result (λ db key named. named.1) refl (search rules) c.getex.ensures.gives c.getex.ensures.kept refl

pub returns-in-GetSet : goal.returns-in-GetSet
returns-in-GetSet g c =
    ran_strings g.B.BlockStore.blocks g.B.BlockStore.step c.args.keyspace.now c.getset.new.keyspace c.args.at.now (Strings c.args.command.now) c.args.command.now
    (strings.GetSet c.as_slice-in-GetSet.result.now c.as_slice-in-GetSet-2.result.now) c.getset.result refl (search rules) c.getset.ensures.gives c.getset.ensures.kept
    c.getset.ensures.forms

pub returns-in-Append : goal.returns-in-Append
returns-in-Append g c =
    ran_strings g.B.BlockStore.blocks g.B.BlockStore.step c.args.keyspace.now c.append.new.keyspace c.args.at.now (Strings c.args.command.now) c.args.command.now
    (strings.Append c.as_slice-in-Append.result.now c.as_slice-in-Append-2.result.now) c.append.result refl (search rules) c.append.ensures.gives c.append.ensures.kept
    c.append.ensures.forms

pub returns-in-MGet : goal.returns-in-MGet
returns-in-MGet g c =
    looked_strings g.B.BlockStore.blocks g.B.BlockStore.step c.args.keyspace.now c.args.at.now (Strings c.args.command.now) c.args.command.now (strings.MGet c.as_slice-in-MGet.result.now)
    c.mget.result refl (search rules) c.mget.ensures c.requires.ready refl

pub returns-in-SetRange : goal.returns-in-SetRange
returns-in-SetRange g c =
    ran_strings g.B.BlockStore.blocks g.B.BlockStore.step c.args.keyspace.now c.setrange.new.keyspace c.args.at.now (Strings c.args.command.now) c.args.command.now
    (strings.SetRange c.as_slice-in-SetRange.result.now c.in-SetRange.place c.as_slice-in-SetRange-2.result.now) c.setrange.result refl (search rules) c.setrange.ensures.gives
    c.setrange.ensures.kept c.setrange.ensures.forms

pub returns-in-IncrBy : goal.returns-in-IncrBy
returns-in-IncrBy g c =
    ran_strings g.B.BlockStore.blocks g.B.BlockStore.step c.args.keyspace.now c.incrby.new.keyspace c.args.at.now (Strings c.args.command.now) c.args.command.now
    (strings.IncrBy c.as_slice-in-IncrBy.result.now (to_z w64 (of_z w64 c.in-IncrBy.n))) c.incrby.result refl (search rules) c.incrby.ensures.gives c.incrby.ensures.kept
    c.incrby.ensures.forms

pub returns-in-DecrBy : goal.returns-in-DecrBy
returns-in-DecrBy g c =
    ran_strings g.B.BlockStore.blocks g.B.BlockStore.step c.args.keyspace.now c.decrby.new.keyspace c.args.at.now (Strings c.args.command.now) c.args.command.now
    (strings.DecrBy c.as_slice-in-DecrBy.result.now (to_z w64 (of_z w64 c.in-DecrBy.n))) c.decrby.result refl (search rules) c.decrby.ensures.gives c.decrby.ensures.kept
    c.decrby.ensures.forms

pub returns-in-Get : goal.returns-in-Get
returns-in-Get g c =
    looked_strings g.B.BlockStore.blocks g.B.BlockStore.step c.args.keyspace.now c.args.at.now (Strings c.args.command.now) c.args.command.now (strings.Get c.as_slice.result.now)
    c.get.result refl (search rules) c.get.ensures c.requires.ready refl

pub returns-in-StrLen : goal.returns-in-StrLen
returns-in-StrLen g c =
    looked_strings g.B.BlockStore.blocks g.B.BlockStore.step c.args.keyspace.now c.args.at.now (Strings c.args.command.now) c.args.command.now
    (strings.StrLen c.as_slice-in-StrLen.result.now) c.strlen.result refl (search rules) c.strlen.ensures c.requires.ready refl

pub returns-in-MSet : goal.returns-in-MSet
returns-in-MSet g c =
    ran_strings g.B.BlockStore.blocks g.B.BlockStore.step c.args.keyspace.now c.mset.new.keyspace c.args.at.now (Strings c.args.command.now) c.args.command.now
    (strings.MSet c.as_slice-in-MSet.result.now) c.mset.result refl (search rules) c.mset.ensures.gives c.mset.ensures.kept c.mset.ensures.forms

pub returns-in-MSetNx : goal.returns-in-MSetNx
returns-in-MSetNx g c =
    ran_strings g.B.BlockStore.blocks g.B.BlockStore.step c.args.keyspace.now c.msetnx.new.keyspace c.args.at.now (Strings c.args.command.now) c.args.command.now
    (strings.MSetNx c.as_slice-in-MSetNx.result.now) c.msetnx.result refl (search rules) c.msetnx.ensures.gives c.msetnx.ensures.kept c.msetnx.ensures.forms

pub returns-in-Incr : goal.returns-in-Incr
returns-in-Incr g c =
    ran_strings g.B.BlockStore.blocks g.B.BlockStore.step c.args.keyspace.now c.incr.new.keyspace c.args.at.now (Strings c.args.command.now) c.args.command.now
    (strings.Incr c.as_slice-in-Incr.result.now) c.incr.result refl (search rules) c.incr.ensures.gives c.incr.ensures.kept c.incr.ensures.forms

pub returns-in-Decr : goal.returns-in-Decr
returns-in-Decr g c =
    ran_strings g.B.BlockStore.blocks g.B.BlockStore.step c.args.keyspace.now c.decr.new.keyspace c.args.at.now (Strings c.args.command.now) c.args.command.now
    (strings.Decr c.as_slice-in-Decr.result.now) c.decr.result refl (search rules) c.decr.ensures.gives c.decr.ensures.kept c.decr.ensures.forms

pub returns-in-GetDel : goal.returns-in-GetDel
returns-in-GetDel g c =
    removed_strings g.B.BlockStore.blocks g.B.BlockStore.step c.args.keyspace.now c.getdel.new.keyspace c.args.at.now (Strings c.args.command.now) c.args.command.now
    (strings.GetDel c.as_slice-in-GetDel.result.now) c.getdel.result (λ db key named. named.1) refl (search rules) c.getdel.ensures.gives c.getdel.ensures.kept refl
