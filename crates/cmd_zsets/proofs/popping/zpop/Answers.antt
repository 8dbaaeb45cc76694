use Rattle.std.proofs.Common.{refl, sym, subst, ◌∙◌}
use Rattle.std.specs.Prelude.{IsSome}
use Rattle.keyspace.specs.Scopes.{one_key}
use Rattle.keyspace.specs.Commands.{visible}
use Rattle.keyspace.proofs.Running.{unchanged}
use Rattle.keyspace.proofs.Settles.{settles_none, settles_ok}
use Rattle.cmd_zsets.proofs.Telling.{before_is, formed_as, if_ok, none_popped, popped_told, popped_calm, or_one_is}
use Rattle.cmd_zsets.proofs.popping.zpop.Goals as goal

pub returns-in-Other-clause-kept : goal.returns-in-Other-clause-kept
returns-in-Other-clause-kept g c = unchanged g.B.BlockStore.blocks g.B.BlockStore.step (one_key c.args.at.now.db c.args.key.now) c.args.keyspace.now c.refused.result c.requires.ready.sound

pub returns-in-Missing-clause-kept : goal.returns-in-Missing-clause-kept
returns-in-Missing-clause-kept g c = unchanged g.B.BlockStore.blocks g.B.BlockStore.step (one_key c.args.at.now.db c.args.key.now) c.args.keyspace.now c.empty_array.result c.requires.ready.sound

pub returns-in-Missing-clause-gives : goal.returns-in-Missing-clause-gives
returns-in-Missing-clause-gives g c = none_popped (visible g.B.BlockStore.blocks c.args.keyspace.now c.args.at.now) c.args.key.now c.args.from c.args.most c.in-Missing.ensures
    c.empty_array.result c.empty_array.ensures

pub returns-clause-gives : goal.returns-clause-gives
returns-clause-gives g c =
    let blocks = g.B.BlockStore.blocks in
    let p = c.in_ok-pop.ensures.changed in
    popped_told (visible blocks c.args.keyspace.now c.args.at.now) (visible blocks c.change_zset.new.keyspace c.args.at.now) c.args.key.now c.args.from c.args.most _ _ p.before
    c.in-There.ensures.scores p.from p.now p.form (c.unwrap_or.ensures ∙ or_one_is c.args.most) p.stands c.in-There.ensures.has p.made p.world c.reply_of.result c.reply_of.ensures

pub returns-clause-kept : goal.returns-clause-kept
returns-clause-kept g c =
    let p = c.in_ok-pop.ensures.changed in
    popped_calm g.B.BlockStore.blocks g.B.BlockStore.step (one_key c.args.at.now.db c.args.key.now) c.args.keyspace.now c.change_zset.new.keyspace _ _ p.made.told_is c.reply_of.result
    c.reply_of.ensures c.change_zset.ensures.held

pub returns-clause-forms : goal.returns-clause-forms
returns-clause-forms g c =
    let blocks = g.B.BlockStore.blocks in
    let p = c.in_ok-pop.ensures.changed in
    let scores = c.in-There.ensures.scores in
    if_ok c.reply_of.result
    (formed_as _ blocks g.B.BlockStore.step c.args.keyspace.now c.change_zset.new.keyspace c.args.at.now c.args.key.now p c.change_zset.ensures.held scores
    (before_is (visible blocks c.args.keyspace.now c.args.at.now) c.args.key.now p.before scores p.stands c.in-There.ensures.has) p.made.form_is)

pub reply_of-requires : goal.reply_of-requires
reply_of-requires g c = subst (λ o. IsSome o) (sym c.in_ok-pop.ensures.changed.made.told_is) refl

pub returns-in-Other-clause-settles : goal.returns-in-Other-clause-settles
returns-in-Other-clause-settles g c =
    let blocks = g.B.BlockStore.blocks in
    let keyspace = c.args.keyspace.now in
    settles_ok blocks c.args.at.now c.args.key.now keyspace keyspace c.refused.result (settles_none blocks c.args.at.now c.args.key.now keyspace)

pub returns-in-Missing-clause-settles : goal.returns-in-Missing-clause-settles
returns-in-Missing-clause-settles g c =
    let blocks = g.B.BlockStore.blocks in
    let keyspace = c.args.keyspace.now in
    settles_ok blocks c.args.at.now c.args.key.now keyspace keyspace c.empty_array.result (settles_none blocks c.args.at.now c.args.key.now keyspace)

pub returns-clause-settles : goal.returns-clause-settles
returns-clause-settles g c =
    settles_ok g.B.BlockStore.blocks c.args.at.now c.args.key.now c.args.keyspace.now c.change_zset.new.keyspace c.reply_of.result c.in_ok-pop.ensures.settles
