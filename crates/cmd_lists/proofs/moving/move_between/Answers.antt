use Rattle.plain_world.specs.declared.refusal.Refusal.TheVariants.{WrongType}
use Rattle.plain_model.specs.declared.list_command.ListCommand.TheVariants as lists
use Rattle.keyspace.specs.Scopes.{two_keys}
use Rattle.keyspace.specs.Forms.{list_form, list_places}
use Rattle.keyspace.specs.Commands.{visible}
use Rattle.keyspace.proofs.Running.{unchanged}
use Rattle.keyspace.proofs.Forming.{formed_refused, unformed_between}
use Rattle.cmd_lists.proofs.Between.{form_none}
use Rattle.cmd_lists.proofs.moving.move_between.Goals as goal

pub returns-in_err-first_at-clause-kept : goal.returns-in_err-first_at-clause-kept
returns-in_err-first_at-clause-kept g c =
    let blocks = g.B.BlockStore.blocks in
    let step = g.B.BlockStore.step in
    let world = visible blocks c.args.keyspace.now c.args.at.now in
    let scope = two_keys c.args.at.now.db c.args.from.now c.args.at.now.db c.args.to.now in
    unchanged blocks step scope c.args.keyspace.now _ c.requires.ready.sound

pub returns-in-Other-clause-kept : goal.returns-in-Other-clause-kept
returns-in-Other-clause-kept g c =
    let blocks = g.B.BlockStore.blocks in
    let step = g.B.BlockStore.step in
    let world = visible blocks c.args.keyspace.now c.args.at.now in
    let scope = two_keys c.args.at.now.db c.args.from.now c.args.at.now.db c.args.to.now in
    unchanged blocks step scope c.args.keyspace.now c.refused.result c.requires.ready.sound

pub returns-in-Missing-clause-kept : goal.returns-in-Missing-clause-kept
returns-in-Missing-clause-kept g c =
    let blocks = g.B.BlockStore.blocks in
    let step = g.B.BlockStore.step in
    let world = visible blocks c.args.keyspace.now c.args.at.now in
    let scope = two_keys c.args.at.now.db c.args.from.now c.args.at.now.db c.args.to.now in
    unchanged blocks step scope c.args.keyspace.now c.null.result c.requires.ready.sound

pub returns-in-Other-clause-forms : goal.returns-in-Other-clause-forms
returns-in-Other-clause-forms g c =
    let blocks = g.B.BlockStore.blocks in
    let world = visible blocks c.args.keyspace.now c.args.at.now in
    formed_refused blocks (list_form c.args.at.now.db world (lists.LMove c.args.from.now c.args.to.now c.args.end c.args.other))
    (list_places c.args.at.now.db world (lists.LMove c.args.from.now c.args.to.now c.args.end c.args.other)) c.args.keyspace.now WrongType c.refused.result c.refused.ensures

pub returns-in-Missing-clause-forms : goal.returns-in-Missing-clause-forms
returns-in-Missing-clause-forms g c =
    let blocks = g.B.BlockStore.blocks in
    let world = visible blocks c.args.keyspace.now c.args.at.now in
    let form = list_form c.args.at.now.db world (lists.LMove c.args.from.now c.args.to.now c.args.end c.args.other) in
    unformed_between blocks c.args.at.now.db c.args.from.now c.args.to.now c.args.keyspace.now form c.null.result
    (form_none c.args.at.now.db world c.args.from.now c.args.to.now c.args.end c.args.other (rw c.in-Missing.is at c.in_ok-first_at.ensures))
