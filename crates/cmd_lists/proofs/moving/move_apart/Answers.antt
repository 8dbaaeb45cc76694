use Rattle.std.proofs.Common.{Some, refl}
use Rattle.plain_world.specs.declared.refusal.Refusal.TheVariants.{WrongType}
use Rattle.plain_model.specs.declared.list_command.ListCommand.TheVariants as lists
use Rattle.keyspace.specs.Scopes.{two_keys}
use Rattle.keyspace.specs.Forms.{list_form, list_places}
use Rattle.keyspace.specs.Commands.{visible}
use Rattle.keyspace.proofs.Running.{unchanged}
use Rattle.keyspace.proofs.Forming.{formed_refused, formed_between}
use Rattle.cmd_lists.proofs.Telling.{popped_calm}
use Rattle.cmd_lists.proofs.Between.{eq_apart, moves_refused, moves_on, form_apart}
use Rattle.cmd_lists.proofs.moving.move_apart.Goals as goal

pub returns-then-is_other-clause-gives : goal.returns-then-is_other-clause-gives
returns-then-is_other-clause-gives g c =
    let blocks = g.B.BlockStore.blocks in
    let step = g.B.BlockStore.step in
    let world = visible blocks c.args.keyspace.now c.args.at.now in
    let scope = two_keys c.args.at.now.db c.args.from.now c.args.at.now.db c.args.to.now in
    moves_refused world c.args.from.now c.args.to.now c.args.end c.args.other c.args.element c.requires.first c.refused.result (eq_apart c.args.from.now c.args.to.now c.requires.apart)
    (c.if-is_other.ensures.other refl) c.refused.ensures

pub returns-then-is_other-clause-kept : goal.returns-then-is_other-clause-kept
returns-then-is_other-clause-kept g c =
    let blocks = g.B.BlockStore.blocks in
    let step = g.B.BlockStore.step in
    let world = visible blocks c.args.keyspace.now c.args.at.now in
    let scope = two_keys c.args.at.now.db c.args.from.now c.args.at.now.db c.args.to.now in
    unchanged blocks step scope c.args.keyspace.now c.refused.result c.requires.ready.sound

pub returns-then-is_other-clause-forms : goal.returns-then-is_other-clause-forms
returns-then-is_other-clause-forms g c =
    let blocks = g.B.BlockStore.blocks in
    let step = g.B.BlockStore.step in
    let world = visible blocks c.args.keyspace.now c.args.at.now in
    let scope = two_keys c.args.at.now.db c.args.from.now c.args.at.now.db c.args.to.now in
    formed_refused blocks (list_form c.args.at.now.db world (lists.LMove c.args.from.now c.args.to.now c.args.end c.args.other))
    (list_places c.args.at.now.db world (lists.LMove c.args.from.now c.args.to.now c.args.end c.args.other)) c.args.keyspace.now WrongType c.refused.result c.refused.ensures

pub returns-clause-gives : goal.returns-clause-gives
returns-clause-gives g c =
    let blocks = g.B.BlockStore.blocks in
    let step = g.B.BlockStore.step in
    let world = visible blocks c.args.keyspace.now c.args.at.now in
    let scope = two_keys c.args.at.now.db c.args.from.now c.args.at.now.db c.args.to.now in
    moves_on world c.args.from.now c.args.to.now c.args.end c.args.other c.args.element c.requires.first (visible blocks c.pass_on.new.keyspace c.args.at.now) c.bulk.result
    (eq_apart c.args.from.now c.args.to.now c.requires.apart) (c.if-is_other.ensures.no_other refl) c.in_ok-pass_on.ensures.world c.bulk.ensures

pub returns-clause-kept : goal.returns-clause-kept
returns-clause-kept g c =
    let blocks = g.B.BlockStore.blocks in
    let step = g.B.BlockStore.step in
    let world = visible blocks c.args.keyspace.now c.args.at.now in
    let scope = two_keys c.args.at.now.db c.args.from.now c.args.at.now.db c.args.to.now in
    popped_calm blocks step scope c.args.keyspace.now c.pass_on.new.keyspace (Some c.args.element) c.bulk.result c.bulk.ensures c.pass_on.ensures.held

pub returns-clause-forms : goal.returns-clause-forms
returns-clause-forms g c =
    let blocks = g.B.BlockStore.blocks in
    let step = g.B.BlockStore.step in
    let world = visible blocks c.args.keyspace.now c.args.at.now in
    let scope = two_keys c.args.at.now.db c.args.from.now c.args.at.now.db c.args.to.now in
    let form = list_form c.args.at.now.db world (lists.LMove c.args.from.now c.args.to.now c.args.end c.args.other) in
    formed_between blocks c.args.at.now.db c.args.from.now c.args.to.now c.args.keyspace.now c.pass_on.new.keyspace form _ c.bulk.result
    (form_apart world c.args.from.now c.args.to.now c.args.end c.args.other c.args.element c.requires.first c.args.at.now.db (eq_apart c.args.from.now c.args.to.now c.requires.apart))
    c.in_ok-pass_on.ensures.forms c.in_ok-pass_on.ensures.placed
