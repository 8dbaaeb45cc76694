use Rattle.std.proofs.Common.{rules, ◌+◌, sym}
use Rattle.std.specs.Int.{w64}
use Rattle.std.proofs.lemmas.Int.{to_z-of_z}
use Rattle.keyspace.specs.Scopes.{one_key}
use Rattle.keyspace.specs.Commands.{visible}
use Rattle.keyspace.proofs.Running.{unchanged, calm}
use Rattle.cmd_lists.proofs.Telling.{before_is, formed_as}
use Rattle.cmd_lists.proofs.Setting.{inside_before, simple_calm, trim_gives}
use Rattle.cmd_lists.proofs.trimming.ltrim.Goals as goal

pub returns-in-Other-clause-kept : goal.returns-in-Other-clause-kept
returns-in-Other-clause-kept g c = unchanged g.B.BlockStore.blocks g.B.BlockStore.step (one_key c.args.at.now.db c.args.key.now) c.args.keyspace.now c.refused.result c.requires.ready.sound

pub returns-in-Missing-clause-kept : goal.returns-in-Missing-clause-kept
returns-in-Missing-clause-kept g c = unchanged g.B.BlockStore.blocks g.B.BlockStore.step (one_key c.args.at.now.db c.args.key.now) c.args.keyspace.now c.simple.result c.requires.ready.sound

pub change_list-requires-clause-takes : goal.change_list-requires-clause-takes
change_list-requires-clause-takes g c before stands =
    let list = c.in-There.ensures.list in
    inside_before (visible g.B.BlockStore.blocks c.args.keyspace.now c.args.at.now) c.args.key.now list (c.reach_of-first.result.0 + c.reach_of-first.result.1) c.length_at.result
    c.in-There.ensures.has (c.length_at.ensures list c.in-There.ensures.has) c.reach_of-first.ensures.inside before stands

pub returns-in_err-change_list-clause-kept : goal.returns-in_err-change_list-clause-kept
returns-in_err-change_list-clause-kept g c =
    calm g.B.BlockStore.blocks g.B.BlockStore.step (one_key c.args.at.now.db c.args.key.now) c.args.keyspace.now c.change_list.new.keyspace c.from_residual.result (search rules)
    c.change_list.ensures.held

pub returns-clause-gives : goal.returns-clause-gives
returns-clause-gives g c =
    let p = c.in_ok-change_list.ensures.changed in
    let list = c.in-There.ensures.list in
    let range = c.reach_of-first.ensures.range list (sym (c.length_at.ensures list c.in-There.ensures.has)) in
    trim_gives (visible g.B.BlockStore.blocks c.args.keyspace.now c.args.at.now) _ c.args.key.now c.args.a c.args.b c.reach_of-first.result.0 c.reach_of-first.result.1 p.before list p.from
    p.now p.form p.stands c.in-There.ensures.has
    (rw (to_z-of_z w64 c.args.a c.ranges.a, to_z-of_z w64 c.args.b c.ranges.b) at range) p.made p.world c.simple-2.result (rw c.ok-2.ensures at c.simple-2.ensures)

pub returns-clause-kept : goal.returns-clause-kept
returns-clause-kept g c =
    simple_calm g.B.BlockStore.blocks g.B.BlockStore.step (one_key c.args.at.now.db c.args.key.now) c.args.keyspace.now c.change_list.new.keyspace c.ok-2.result c.simple-2.result
    c.simple-2.ensures c.change_list.ensures.held

pub returns-clause-forms : goal.returns-clause-forms
returns-clause-forms g c =
    let p = c.in_ok-change_list.ensures.changed in
    formed_as _ g.B.BlockStore.blocks g.B.BlockStore.step c.args.keyspace.now c.change_list.new.keyspace c.args.at.now c.args.key.now p c.change_list.ensures.held c.in-There.ensures.list
    (before_is _ c.args.key.now p.before c.in-There.ensures.list p.stands c.in-There.ensures.has) p.made.form_is _
