use Rattle.std.proofs.Common.{◌∷◌, [], Some, rules}
use Rattle.plain_model.specs.ListSteps.{added, without}
use Rattle.plain_model.specs.declared.list_command.ListCommand.TheVariants as lists
use Rattle.keyspace.specs.Scopes.{two_keys}
use Rattle.keyspace.specs.Forms.{list_at, list_form}
use Rattle.keyspace.specs.Commands.{visible}
use Rattle.cmd_lists.proofs.Telling.{popped_calm}
use Rattle.cmd_lists.proofs.Between.{held_from, eq_same, moves_same, form_same, formed_same}
use Rattle.cmd_lists.proofs.moving.move_same.Goals as goal

pub returns-in_err-turn_list-clause-kept : goal.returns-in_err-turn_list-clause-kept
returns-in_err-turn_list-clause-kept g c =
    let blocks = g.B.BlockStore.blocks in
    let step = g.B.BlockStore.step in
    let world = visible blocks c.args.keyspace.now c.args.at.now in
    let scope = two_keys c.args.at.now.db c.args.from.now c.args.at.now.db c.args.to.now in
    record { refusals = search rules; held = held_from blocks step c.args.at.now.db c.args.from.now c.args.to.now c.args.keyspace.now c.turn_list.new.keyspace c.turn_list.ensures.held }

pub returns-clause-gives : goal.returns-clause-gives
returns-clause-gives g c =
    let blocks = g.B.BlockStore.blocks in
    let step = g.B.BlockStore.step in
    let world = visible blocks c.args.keyspace.now c.args.at.now in
    let scope = two_keys c.args.at.now.db c.args.from.now c.args.at.now.db c.args.to.now in
    moves_same world c.args.from.now c.args.to.now c.args.end c.args.other c.args.element c.requires.first (visible blocks c.turn_list.new.keyspace c.args.at.now) c.bulk.result
    (eq_same c.args.from.now c.args.to.now c.requires.same) c.in_ok-turn_list.ensures.world c.bulk.ensures

pub returns-clause-kept : goal.returns-clause-kept
returns-clause-kept g c =
    let blocks = g.B.BlockStore.blocks in
    let step = g.B.BlockStore.step in
    let world = visible blocks c.args.keyspace.now c.args.at.now in
    let scope = two_keys c.args.at.now.db c.args.from.now c.args.at.now.db c.args.to.now in
    popped_calm blocks step scope c.args.keyspace.now c.turn_list.new.keyspace (Some c.args.element) c.bulk.result c.bulk.ensures
    (held_from blocks step c.args.at.now.db c.args.from.now c.args.to.now c.args.keyspace.now c.turn_list.new.keyspace c.turn_list.ensures.held)

pub returns-clause-forms : goal.returns-clause-forms
returns-clause-forms g c =
    let blocks = g.B.BlockStore.blocks in
    let step = g.B.BlockStore.step in
    let world = visible blocks c.args.keyspace.now c.args.at.now in
    let scope = two_keys c.args.at.now.db c.args.from.now c.args.at.now.db c.args.to.now in
    let form = list_form c.args.at.now.db world (lists.LMove c.args.from.now c.args.to.now c.args.end c.args.other) in
    formed_same blocks c.args.at.now c.args.from.now c.args.to.now c.args.keyspace.now c.turn_list.new.keyspace
    (added c.args.other (without c.args.end 1 (list_at world c.args.from.now)) (c.args.element ∷ [])) form c.bulk.result c.requires.same
    (form_same world c.args.from.now c.args.to.now c.args.end c.args.other c.args.element c.requires.first c.args.at.now.db (eq_same c.args.from.now c.args.to.now c.requires.same))
    c.in_ok-turn_list.ensures.forms c.in_ok-turn_list.ensures.placed
