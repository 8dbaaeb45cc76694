use Rattle.std.proofs.Common.{ap, is_some}
use Rattle.std.proofs.lemmas.Bool.{ne_eqb}
use Rattle.keyspace.specs.Commands.{seen, visible}
use Rattle.cmd_keys.proofs.Moving.{move_done}
use Rattle.keyspace.proofs.Running.{unchanged}
use Rattle.keyspace.specs.Scopes.{two_keys}
use Rattle.keyspace.specs.Forms.{AsAt, key_form}
use Rattle.plain_model.specs.declared.keys.KeyCommand.TheVariants as commands
use Rattle.keyspace.proofs.Forming.{unformed, written_where, holds_alone}
use Rattle.cmd_keys.proofs.keys.moving.move_key.Goals as goal

pub returns-then-number-at-clause-kept : goal.returns-then-number-at-clause-kept
returns-then-number-at-clause-kept g c =
    unchanged g.B.BlockStore.blocks g.B.BlockStore.step (two_keys c.args.at.now.db c.args.key.now c.args.number c.args.key.now) c.args.keyspace.now _ c.requires.ready.sound

pub returns-in-None-clause-kept : goal.returns-in-None-clause-kept
returns-in-None-clause-kept g c =
    unchanged g.B.BlockStore.blocks g.B.BlockStore.step (two_keys c.args.at.now.db c.args.key.now c.args.number c.args.key.now) c.args.keyspace.now _ c.requires.ready.sound

pub returns-in-None-free_place-clause-kept : goal.returns-in-None-free_place-clause-kept
returns-in-None-free_place-clause-kept g c =
    unchanged g.B.BlockStore.blocks g.B.BlockStore.step (two_keys c.args.at.now.db c.args.key.now c.args.number c.args.key.now) c.args.keyspace.now _ c.requires.ready.sound

pub returns-then-number-at-clause-forms : goal.returns-then-number-at-clause-forms
returns-then-number-at-clause-forms g c =
    unformed g.B.BlockStore.blocks (key_form c.args.at.now.db (visible g.B.BlockStore.blocks c.args.keyspace.now c.args.at.now) (commands.MoveKey c.args.key.now c.args.number)) c.args.keyspace.now _

pub returns-in-None-clause-forms : goal.returns-in-None-clause-forms
returns-in-None-clause-forms g c =
    unformed g.B.BlockStore.blocks (key_form c.args.at.now.db (visible g.B.BlockStore.blocks c.args.keyspace.now c.args.at.now) (commands.MoveKey c.args.key.now c.args.number)) c.args.keyspace.now _

pub returns-in-None-free_place-clause-forms : goal.returns-in-None-free_place-clause-forms
returns-in-None-free_place-clause-forms g c =
    unformed g.B.BlockStore.blocks (key_form c.args.at.now.db (visible g.B.BlockStore.blocks c.args.keyspace.now c.args.at.now) (commands.MoveKey c.args.key.now c.args.number)) c.args.keyspace.now _

pub returns-in_ok-move_to-in-Some-free_place-clause-forms : goal.returns-in_ok-move_to-in-Some-free_place-clause-forms
returns-in_ok-move_to-in-Some-free_place-clause-forms g c =
    written_where g.B.BlockStore.blocks c.args.keyspace.now c.move_to.new.keyspace _ (AsAt c.args.at.now.db c.args.key.now) _
    (holds_alone _ _ (ap is_some (rw c.in-Some.is at c.seek-found.ensures.until).stands) c.in-Some-free_place.ensures.free) c.in_ok-move_to-in-Some-free_place.ensures.forms

pub returns-in_ok-move_to-in-Some-free_place-clause-gives : goal.returns-in_ok-move_to-in-Some-free_place-clause-gives
returns-in_ok-move_to-in-Some-free_place-clause-gives g c =
    let blocks = g.B.BlockStore.blocks in
    move_done (seen c.args.at.now c.args.keyspace.now.bases (blocks c.args.keyspace.now.store)) (seen c.args.at.now c.move_to.new.keyspace.bases (blocks c.move_to.new.keyspace.store))
    c.args.key.now c.args.number c.count_reply-in-Some-free_place.result
    (ne_eqb c.args.number c.args.at.now.db c.if-number-at.false) (ap is_some (rw c.in-Some.is at c.seek-found.ensures.until).stands) c.in-Some-free_place.ensures.free
    c.in_ok-move_to-in-Some-free_place.ensures.world c.count_reply-in-Some-free_place.ensures
