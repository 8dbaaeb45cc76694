use Rattle.keyspace.specs.Scopes.{two_keys}
use Rattle.keyspace.specs.Commands.{visible}
use Rattle.keyspace.proofs.Running.{unchanged, calm}
use Rattle.keyspace.proofs.Settles.{settles_none, settles_ok}
use Rattle.cmd_sets.proofs.Telling.{told_by, number_calm}
use Rattle.cmd_sets.proofs.moving.smove.Goals as goal
use Rattle.plain_world.specs.declared.refusal.Refusal.TheVariants.{WrongType}
use Rattle.plain_model.specs.declared.set_command.SetCommand.TheVariants as sets
use Rattle.keyspace.specs.Forms.{set_form, set_places, set_passed}
use Rattle.keyspace.proofs.Forming.{formed_refused, formed_between, unformed_between}
use Rattle.cmd_sets.proofs.Going.{moves_on, form_moved, form_stays}

pub returns-in-Refuse-clause-gives : goal.returns-in-Refuse-clause-gives
returns-in-Refuse-clause-gives g c = told_by _ _ (visible g.B.BlockStore.blocks c.args.keyspace.now c.args.at.now) c.refused.result (rw c.in-Refuse.is at c.plan_of.ensures) c.refused.ensures

pub returns-in-Refuse-clause-kept : goal.returns-in-Refuse-clause-kept
returns-in-Refuse-clause-kept g c = unchanged g.B.BlockStore.blocks g.B.BlockStore.step (two_keys c.args.at.now.db c.args.from.now c.args.at.now.db c.args.to.now) c.args.keyspace.now
    c.refused.result c.requires.ready.sound

pub returns-in-Tell-clause-gives : goal.returns-in-Tell-clause-gives
returns-in-Tell-clause-gives g c = told_by _ _ (visible g.B.BlockStore.blocks c.args.keyspace.now c.args.at.now) c.count_reply.result (rw c.in-Tell.is at c.plan_of.ensures).0 c.count_reply.ensures

pub returns-in-Tell-clause-kept : goal.returns-in-Tell-clause-kept
returns-in-Tell-clause-kept g c = unchanged g.B.BlockStore.blocks g.B.BlockStore.step (two_keys c.args.at.now.db c.args.from.now c.args.at.now.db c.args.to.now) c.args.keyspace.now
    c.count_reply.result c.requires.ready.sound

pub returns-in_ok-move_member-in-Move-clause-gives : goal.returns-in_ok-move_member-in-Move-clause-gives
returns-in_ok-move_member-in-Move-clause-gives g c = told_by _ _ (visible g.B.BlockStore.blocks c.move_member.new.keyspace c.args.at.now) c.count_reply-in-Move.result
    c.in_ok-move_member-in-Move.ensures.moved c.count_reply-in-Move.ensures

pub returns-in_ok-move_member-in-Move-clause-kept : goal.returns-in_ok-move_member-in-Move-clause-kept
returns-in_ok-move_member-in-Move-clause-kept g c = calm g.B.BlockStore.blocks g.B.BlockStore.step (two_keys c.args.at.now.db c.args.from.now c.args.at.now.db c.args.to.now)
    c.args.keyspace.now c.move_member.new.keyspace c.count_reply-in-Move.result (number_calm _ c.count_reply-in-Move.result c.count_reply-in-Move.ensures) c.move_member.ensures.held

pub returns-in-Refuse-clause-forms : goal.returns-in-Refuse-clause-forms
returns-in-Refuse-clause-forms g c =
    let world = visible g.B.BlockStore.blocks c.args.keyspace.now c.args.at.now in
    formed_refused g.B.BlockStore.blocks (set_form c.args.at.now.db world (sets.SMove c.args.from.now c.args.to.now c.args.member.now))
    (set_places c.args.at.now.db world (sets.SMove c.args.from.now c.args.to.now c.args.member.now)) c.args.keyspace.now WrongType c.refused.result c.refused.ensures

pub returns-in-Tell-clause-forms : goal.returns-in-Tell-clause-forms
returns-in-Tell-clause-forms g c =
    let world = visible g.B.BlockStore.blocks c.args.keyspace.now c.args.at.now in
    let stays = rw c.in-Tell.is at c.plan_of.ensures in
    unformed_between g.B.BlockStore.blocks c.args.at.now.db c.args.from.now c.args.to.now c.args.keyspace.now
    (set_form c.args.at.now.db world (sets.SMove c.args.from.now c.args.to.now c.args.member.now)) c.count_reply.result
    (form_stays c.args.at.now.db world c.args.from.now c.args.to.now c.args.member.now stays.1)

pub returns-in_ok-move_member-in-Move-clause-forms : goal.returns-in_ok-move_member-in-Move-clause-forms
returns-in_ok-move_member-in-Move-clause-forms g c =
    let world = visible g.B.BlockStore.blocks c.args.keyspace.now c.args.at.now in
    let moves = rw c.in-Move.is at c.plan_of.ensures in
    let done = c.in_ok-move_member-in-Move.ensures in
    formed_between g.B.BlockStore.blocks c.args.at.now.db c.args.from.now c.args.to.now c.args.keyspace.now c.move_member.new.keyspace
    (set_form c.args.at.now.db world (sets.SMove c.args.from.now c.args.to.now c.args.member.now))
    (set_passed c.args.at.now.db world c.args.from.now c.args.to.now c.args.member.now) c.count_reply-in-Move.result
    (form_moved c.args.at.now.db world c.args.from.now c.args.to.now c.args.member.now (moves_on world c.args.from.now c.args.to.now c.args.member.now moves)) done.forms done.placed

pub returns-in-Refuse-clause-settles : goal.returns-in-Refuse-clause-settles
returns-in-Refuse-clause-settles g c =
    let blocks = g.B.BlockStore.blocks in
    let keyspace = c.args.keyspace.now in
    settles_ok blocks c.args.at.now c.args.from.now keyspace keyspace c.refused.result (settles_none blocks c.args.at.now c.args.from.now keyspace)

pub returns-in-Tell-clause-settles : goal.returns-in-Tell-clause-settles
returns-in-Tell-clause-settles g c =
    let blocks = g.B.BlockStore.blocks in
    let keyspace = c.args.keyspace.now in
    settles_ok blocks c.args.at.now c.args.from.now keyspace keyspace c.count_reply.result (settles_none blocks c.args.at.now c.args.from.now keyspace)

pub returns-in_ok-move_member-in-Move-clause-settles : goal.returns-in_ok-move_member-in-Move-clause-settles
returns-in_ok-move_member-in-Move-clause-settles g c =
    settles_ok g.B.BlockStore.blocks c.args.at.now c.args.from.now c.args.keyspace.now c.move_member.new.keyspace c.count_reply-in-Move.result
    c.in_ok-move_member-in-Move.ensures.settles
