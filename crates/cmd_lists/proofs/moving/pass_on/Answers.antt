use Rattle.plain_model.specs.ListSteps.{without}
use Rattle.keyspace.specs.Scopes.{two_keys}
use Rattle.keyspace.specs.Forms.{list_at}
use Rattle.keyspace.specs.Commands.{visible}
use Rattle.keyspace.proofs.Running.{held_then}
use Rattle.cmd_lists.proofs.Between.{held_from, held_to, no_other_on, same_look, world_both, formed_both, placed_both}
use Rattle.cmd_lists.proofs.moving.pass_on.Goals as goal

pub returns-in_err-take_first-clause-held : goal.returns-in_err-take_first-clause-held
returns-in_err-take_first-clause-held g c =
    held_from g.B.BlockStore.blocks g.B.BlockStore.step c.args.at.now.db c.args.from.now c.args.to.now c.args.keyspace.now c.take_first.new.keyspace c.take_first.ensures.held

pub put_one-requires-clause-no_other : goal.put_one-requires-clause-no_other
put_one-requires-clause-no_other g c =
    let blocks = g.B.BlockStore.blocks in
    let old = visible blocks c.args.keyspace.now c.args.at.now in
    let mid = visible blocks c.take_first.new.keyspace c.args.at.now in
    no_other_on old mid c.args.to.now
    (same_look old mid c.args.from.now c.args.to.now (without c.args.end 1 (list_at old c.args.from.now)) c.requires.apart c.in_ok-take_first.ensures.world) c.requires.no_other

pub returns-clause-world : goal.returns-clause-world
returns-clause-world g c =
    let blocks = g.B.BlockStore.blocks in
    let old = visible blocks c.args.keyspace.now c.args.at.now in
    let mid = visible blocks c.take_first.new.keyspace c.args.at.now in
    let rest = without c.args.end 1 (list_at old c.args.from.now) in
    world_both old mid (visible blocks c.put_one.new.keyspace c.args.at.now) c.args.from.now c.args.to.now c.args.other rest c.args.element.now c.put_one.result c.in_ok-take_first.ensures.world
    (same_look old mid c.args.from.now c.args.to.now rest c.requires.apart c.in_ok-take_first.ensures.world) c.put_one.ensures.world

pub returns-clause-held : goal.returns-clause-held
returns-clause-held g c =
    let blocks = g.B.BlockStore.blocks in
    let step = g.B.BlockStore.step in
    let db = c.args.at.now.db in
    held_then blocks step (two_keys db c.args.from.now db c.args.to.now) c.args.keyspace.now c.take_first.new.keyspace c.put_one.new.keyspace
    (held_from blocks step db c.args.from.now c.args.to.now c.args.keyspace.now c.take_first.new.keyspace c.take_first.ensures.held)
    (held_to blocks step db c.args.from.now c.args.to.now c.take_first.new.keyspace c.put_one.new.keyspace c.put_one.ensures.held)

pub returns-clause-forms : goal.returns-clause-forms
returns-clause-forms g c =
    let blocks = g.B.BlockStore.blocks in
    let old = visible blocks c.args.keyspace.now c.args.at.now in
    let mid = visible blocks c.take_first.new.keyspace c.args.at.now in
    let rest = without c.args.end 1 (list_at old c.args.from.now) in
    formed_both blocks c.args.at.now c.args.from.now c.args.to.now c.args.keyspace.now c.take_first.new.keyspace c.put_one.new.keyspace c.args.other c.args.element.now c.put_one.result
    c.requires.apart
    (same_look old mid c.args.from.now c.args.to.now rest c.requires.apart c.in_ok-take_first.ensures.world) c.take_first.ensures.held.within c.in_ok-take_first.ensures.forms c.put_one.ensures.forms

pub returns-clause-placed : goal.returns-clause-placed
returns-clause-placed g c =
    let blocks = g.B.BlockStore.blocks in
    let old = visible blocks c.args.keyspace.now c.args.at.now in
    let mid = visible blocks c.take_first.new.keyspace c.args.at.now in
    let rest = without c.args.end 1 (list_at old c.args.from.now) in
    placed_both blocks c.args.at.now c.args.from.now c.args.to.now c.args.keyspace.now c.take_first.new.keyspace c.put_one.new.keyspace c.args.other c.args.element.now c.put_one.result
    c.requires.apart
    (same_look old mid c.args.from.now c.args.to.now rest c.requires.apart c.in_ok-take_first.ensures.world) c.take_first.ensures.held.within c.put_one.ensures.held.within
    c.in_ok-take_first.ensures.placed c.put_one.ensures.placed
