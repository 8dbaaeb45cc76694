use Rattle.std.proofs.Common.{◌≡◌, refl, sym, ap, ◌∙◌, is_some, false}
use Rattle.std.specs.Prelude.{not, ◌&&◌}
use Rattle.keyspace.specs.Commands.{seen, visible}
use Rattle.cmd_keys.proofs.Copying.{copy_done, copy_stopped}
use Rattle.keyspace.proofs.Running.{unchanged}
use Rattle.keyspace.specs.Scopes.{two_keys, number_or}
use Rattle.keyspace.specs.Forms.{AsAt, key_form}
use Rattle.keyspace.proofs.Forming.{unformed, written_where, holds_alone}
use Rattle.cmd_keys.proofs.keys.copying.copy.Goals as goal
use Rattle.plain_world.specs.Worlds.{look_in}
use Rattle.plain_model.specs.KeySteps.{or_selected}
use Rattle.plain_model.specs.declared.keys.KeyCommand.TheVariants as commands

pub returns-then-is_taken-clause-gives : goal.returns-then-is_taken-clause-gives
returns-then-is_taken-clause-gives g c =
    let world = seen c.args.at.now c.args.keyspace.now.bases (g.B.BlockStore.blocks c.args.keyspace.now.store) in
    copy_stopped world c.args.from.now c.args.to.now c.args.options c.number_of-number.result (c.number_of-number.ensures.number world refl) c.count_reply-then-is_taken.result
    (sym c.if-is_same_place.ensures) (ap is_some (rw c.in-Some.is at c.seek-found.ensures.until).stands) (sym c.if-is_taken.ensures) c.count_reply-then-is_taken.ensures

pub returns-in_ok-copy_to-in-Some-clause-gives : goal.returns-in_ok-copy_to-in-Some-clause-gives
returns-in_ok-copy_to-in-Some-clause-gives g c =
    let blocks = g.B.BlockStore.blocks in
    let world = seen c.args.at.now c.args.keyspace.now.bases (blocks c.args.keyspace.now.store) in
    copy_done world c.args.from.now c.args.to.now c.args.options c.number_of-number.result (c.number_of-number.ensures.number world refl)
    (seen c.args.at.now c.copy_to.new.keyspace.bases (blocks c.copy_to.new.keyspace.store)) c.count_reply-in-Some.result
    (sym c.if-is_same_place.ensures) (ap is_some (rw c.in-Some.is at c.seek-found.ensures.until).stands) (sym c.if-is_taken.ensures) c.in_ok-copy_to-in-Some.ensures.world c.count_reply-in-Some.ensures

pub returns-then-is_same_place-clause-kept : goal.returns-then-is_same_place-clause-kept
returns-then-is_same_place-clause-kept g c =
    unchanged g.B.BlockStore.blocks g.B.BlockStore.step (two_keys c.args.at.now.db c.args.from.now (number_or c.args.at.now.db c.args.options.db) c.args.to.now) c.args.keyspace.now _
    c.requires.ready.sound

pub returns-in-None-clause-kept : goal.returns-in-None-clause-kept
returns-in-None-clause-kept g c =
    unchanged g.B.BlockStore.blocks g.B.BlockStore.step (two_keys c.args.at.now.db c.args.from.now (number_or c.args.at.now.db c.args.options.db) c.args.to.now) c.args.keyspace.now _
    c.requires.ready.sound

pub returns-then-is_taken-clause-kept : goal.returns-then-is_taken-clause-kept
returns-then-is_taken-clause-kept g c =
    unchanged g.B.BlockStore.blocks g.B.BlockStore.step (two_keys c.args.at.now.db c.args.from.now (number_or c.args.at.now.db c.args.options.db) c.args.to.now) c.args.keyspace.now _
    c.requires.ready.sound

pub returns-then-is_same_place-clause-forms : goal.returns-then-is_same_place-clause-forms
returns-then-is_same_place-clause-forms g c =
    unformed g.B.BlockStore.blocks (key_form c.args.at.now.db (visible g.B.BlockStore.blocks c.args.keyspace.now c.args.at.now) (commands.Copy c.args.from.now c.args.to.now c.args.options))
    c.args.keyspace.now _

pub returns-in-None-clause-forms : goal.returns-in-None-clause-forms
returns-in-None-clause-forms g c =
    unformed g.B.BlockStore.blocks (key_form c.args.at.now.db (visible g.B.BlockStore.blocks c.args.keyspace.now c.args.at.now) (commands.Copy c.args.from.now c.args.to.now c.args.options))
    c.args.keyspace.now _

pub returns-then-is_taken-clause-forms : goal.returns-then-is_taken-clause-forms
returns-then-is_taken-clause-forms g c =
    unformed g.B.BlockStore.blocks (key_form c.args.at.now.db (visible g.B.BlockStore.blocks c.args.keyspace.now c.args.at.now) (commands.Copy c.args.from.now c.args.to.now c.args.options))
    c.args.keyspace.now _

pub returns-in_ok-copy_to-in-Some-clause-forms : goal.returns-in_ok-copy_to-in-Some-clause-forms
returns-in_ok-copy_to-in-Some-clause-forms g c =
    let world = seen c.args.at.now c.args.keyspace.now.bases (g.B.BlockStore.blocks c.args.keyspace.now.store) in
    let there = ap is_some (rw c.in-Some.is at c.seek-found.ensures.until).stands in
    let free : (is_some (look_in world (or_selected world c.args.options.db) c.args.to.now) && not c.args.options.replace) ≡ false =
    ap (λ n. is_some (look_in world n c.args.to.now) && not c.args.options.replace) (c.number_of-number.ensures.number world refl) ∙ sym c.if-is_taken.ensures in
    written_where g.B.BlockStore.blocks c.args.keyspace.now c.copy_to.new.keyspace _ (AsAt c.args.at.now.db c.args.from.now) _ (holds_alone _ _ there free) c.in_ok-copy_to-in-Some.ensures.forms
