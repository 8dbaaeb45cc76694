use Rattle.std.proofs.Common.{sym, ◌∙◌}
use Rattle.keyspace.specs.Scopes.{one_key}
use Rattle.keyspace.specs.Commands.{visible}
use Rattle.keyspace.proofs.Running.{unchanged}
use Rattle.cmd_hashes.proofs.Telling.{kept_told, missing_told}
use Rattle.cmd_hashes.proofs.setting.hsetnx.Goals as goal
use Rattle.cmd_hashes.proofs.Telling.{set_where_missing}

pub returns-in-Other-clause-kept : goal.returns-in-Other-clause-kept
returns-in-Other-clause-kept g c = unchanged g.B.BlockStore.blocks g.B.BlockStore.step (one_key c.args.at.now.db c.args.key.now) c.args.keyspace.now c.refused.result c.requires.ready.sound

pub returns-then-has_field-clause-kept : goal.returns-then-has_field-clause-kept
returns-then-has_field-clause-kept g c = unchanged g.B.BlockStore.blocks g.B.BlockStore.step (one_key c.args.at.now.db c.args.key.now) c.args.keyspace.now c.number.result c.requires.ready.sound

pub returns-then-has_field-clause-gives : goal.returns-then-has_field-clause-gives
returns-then-has_field-clause-gives g c =
    let f = c.has_field.ensures in
    kept_told (visible g.B.BlockStore.blocks c.args.keyspace.now c.args.at.now) c.args.key.now c.args.field.now c.args.value.now f.0 f.1 (sym f.2 ∙ c.if-has_field.true) c.number.result
    c.number.ensures

pub returns-clause-gives : goal.returns-clause-gives
returns-clause-gives g c =
    let blocks = g.B.BlockStore.blocks in
    let f = c.has_field.ensures in
    let s = c.in_ok-set_field_at.ensures.set in
    missing_told (visible blocks c.args.keyspace.now c.args.at.now) (visible blocks c.set_field_at.new.keyspace c.args.at.now) c.args.key.now c.args.field.now c.args.value.now f.0 s.0 s.1 f.1
    (sym f.2 ∙ c.if-has_field.false) c.number-2.result c.number-2.ensures

pub returns-clause-forms : goal.returns-clause-forms
returns-clause-forms g c =
    let world = visible g.B.BlockStore.blocks c.args.keyspace.now c.args.at.now in
    let f = c.has_field.ensures in
    set_where_missing g.B.BlockStore.blocks c.args.keyspace.now c.set_field_at.new.keyspace world c.args.at.now.db c.args.key.now c.args.field.now c.args.value.now f.0 c.number-2.result f.1
    (sym f.2 ∙ c.if-has_field.false) c.in_ok-set_field_at.ensures.forms
