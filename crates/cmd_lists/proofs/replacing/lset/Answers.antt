use Rattle.std.proofs.Common.{◌≡◌, ℕ, suc, List, [], ◌∷◌, IfOk, refl, sym, subst, ◌∙◌}
use Rattle.plain_world.specs.declared.reply.Part.TheVariants.{Simple}
use Rattle.plain_model.specs.ListSteps.{place_of, set_at}
use Rattle.std.specs.Int.{w64}
use Rattle.std.proofs.lemmas.Int.{to_z-of_z}
use Rattle.keyspace.specs.Scopes.{one_key}
use Rattle.keyspace.specs.Commands.{visible}
use Rattle.keyspace.proofs.Forming.{formed_none}
use Rattle.keyspace.proofs.Running.{unchanged}
use Rattle.cmd_lists.proofs.Looking.{refused_other, told_none}
use Rattle.cmd_lists.proofs.Telling.{if_ok}
use Rattle.cmd_lists.proofs.Setting.{inside_before, place_inside, set_outside, set_gives, simple_calm, set_formed}
use Rattle.cmd_lists.proofs.replacing.lset.Goals as goal

pub returns-in-Other-clause-kept : goal.returns-in-Other-clause-kept
returns-in-Other-clause-kept g c = unchanged g.B.BlockStore.blocks g.B.BlockStore.step (one_key c.args.at.now.db c.args.key.now) c.args.keyspace.now c.refused.result c.requires.ready.sound

pub returns-in-Missing-clause-kept : goal.returns-in-Missing-clause-kept
returns-in-Missing-clause-kept g c = unchanged g.B.BlockStore.blocks g.B.BlockStore.step (one_key c.args.at.now.db c.args.key.now) c.args.keyspace.now c.refused-in-Missing.result
    c.requires.ready.sound

pub returns-in-None-clause-kept : goal.returns-in-None-clause-kept
returns-in-None-clause-kept g c = unchanged g.B.BlockStore.blocks g.B.BlockStore.step (one_key c.args.at.now.db c.args.key.now) c.args.keyspace.now c.refused-in-None.result c.requires.ready.sound

pub returns-clause-kept : goal.returns-clause-kept
returns-clause-kept g c =
    simple_calm g.B.BlockStore.blocks g.B.BlockStore.step (one_key c.args.at.now.db c.args.key.now) c.args.keyspace.now c.change_list.new.keyspace c.ok.result c.simple.result
    c.simple.ensures c.change_list.ensures.held

pub returns-clause-forms : goal.returns-clause-forms
returns-clause-forms g c =
    let p = c.in_ok-change_list.ensures.changed in
    let list = c.in-There.ensures.list in
    let placed = c.place_at.ensures in
    let place : c.place_at.result ≡ place_of c.length_at.result c.args.index = rw (to_z-of_z w64 c.args.index c.ranges.index) at placed in
    set_formed _ g.B.BlockStore.blocks g.B.BlockStore.step c.args.keyspace.now c.change_list.new.keyspace c.args.at.now c.args.key.now p c.change_list.ensures.held c.args.element.now
    c.args.index c.in-Some.place list c.length_at.result c.in-There.ensures.has
    (c.length_at.ensures list c.in-There.ensures.has) (sym place ∙ c.in-Some.is) p.made.is p.made.risen c.simple.result

pub returns-in-Other-clause-gives : goal.returns-in-Other-clause-gives
returns-in-Other-clause-gives g c =
    let world = visible g.B.BlockStore.blocks c.args.keyspace.now c.args.at.now in
    refused_other world c.args.key.now (set_at world c.args.key.now c.args.index c.args.element.now) c.refused.result c.in-Other.ensures c.refused.ensures

pub returns-in-Missing-clause-gives : goal.returns-in-Missing-clause-gives
returns-in-Missing-clause-gives g c =
    let world = visible g.B.BlockStore.blocks c.args.keyspace.now c.args.at.now in
    told_none world c.args.key.now (set_at world c.args.key.now c.args.index c.args.element.now) c.refused-in-Missing.result c.in-Missing.ensures c.refused-in-Missing.ensures refl

pub returns-in-None-clause-gives : goal.returns-in-None-clause-gives
returns-in-None-clause-gives g c =
    let list = c.in-There.ensures.list in
    let has = c.in-There.ensures.has in
    let placed = c.place_at.ensures in
    let place : c.place_at.result ≡ place_of c.length_at.result c.args.index = rw (to_z-of_z w64 c.args.index c.ranges.index) at placed in
    set_outside (visible g.B.BlockStore.blocks c.args.keyspace.now c.args.at.now) c.args.key.now c.args.element.now c.args.index list c.length_at.result has (c.length_at.ensures list has)
    (sym place ∙ c.in-None.is) c.refused-in-None.result c.refused-in-None.ensures

pub change_list-requires-clause-takes : goal.change_list-requires-clause-takes
change_list-requires-clause-takes g c before stands =
    let list = c.in-There.ensures.list in
    let has = c.in-There.ensures.has in
    let placed = c.place_at.ensures in
    let place : c.place_at.result ≡ place_of c.length_at.result c.args.index = rw (to_z-of_z w64 c.args.index c.ranges.index) at placed in
    inside_before (visible g.B.BlockStore.blocks c.args.keyspace.now c.args.at.now) c.args.key.now list (suc c.in-Some.place) c.length_at.result has (c.length_at.ensures list has)
    (place_inside c.length_at.result c.args.index c.in-Some.place (sym place ∙ c.in-Some.is)) before stands

pub returns-clause-gives : goal.returns-clause-gives
returns-clause-gives g c =
    let blocks = g.B.BlockStore.blocks in
    let p = c.in_ok-change_list.ensures.changed in
    let list = c.in-There.ensures.list in
    let has = c.in-There.ensures.has in
    let placed = c.place_at.ensures in
    let place : c.place_at.result ≡ place_of c.length_at.result c.args.index = rw (to_z-of_z w64 c.args.index c.ranges.index) at placed in
    set_gives (visible blocks c.args.keyspace.now c.args.at.now) (visible blocks c.change_list.new.keyspace c.args.at.now) c.args.key.now c.args.element.now c.args.index c.in-Some.place p.before list
    c.length_at.result p.from p.now p.form p.stands has (c.length_at.ensures list has) (sym place ∙ c.in-Some.is) p.made p.world c.simple.result
    (subst (λ (line : List ℕ). IfOk c.simple.result (λ reply. reply ≡ Simple line ∷ [])) c.ok.ensures c.simple.ensures)

pub returns-in-Other-clause-forms : goal.returns-in-Other-clause-forms
returns-in-Other-clause-forms g c = if_ok c.refused.result (formed_none g.B.BlockStore.blocks _ c.args.keyspace.now)

pub returns-in-Missing-clause-forms : goal.returns-in-Missing-clause-forms
returns-in-Missing-clause-forms g c = if_ok c.refused-in-Missing.result (formed_none g.B.BlockStore.blocks _ c.args.keyspace.now)

pub returns-in-None-clause-forms : goal.returns-in-None-clause-forms
returns-in-None-clause-forms g c = if_ok c.refused-in-None.result (formed_none g.B.BlockStore.blocks _ c.args.keyspace.now)
