use Rattle.std.proofs.Common.{take, subst, sym, ◌∙◌}
use Rattle.plain_world.specs.Parts.{IsReply}
use Rattle.plain_model.specs.ListSteps.{from_end, or_none}
use Rattle.cmd_lists.proofs.Ranges.{listed_is_reply}
use Rattle.keyspace.specs.Scopes.{one_key}
use Rattle.keyspace.specs.Commands.{visible}
use Rattle.keyspace.proofs.Running.{unchanged}
use Rattle.cmd_lists.proofs.Telling.{before_is, like_there, many_gives, listed_calm}
use Rattle.cmd_lists.proofs.popping.pop_many.Goals as goal

pub returns-in-Other-clause-kept : goal.returns-in-Other-clause-kept
returns-in-Other-clause-kept g c = unchanged g.B.BlockStore.blocks g.B.BlockStore.step (one_key c.args.at.now.db c.args.key.now) c.args.keyspace.now c.refused.result c.requires.ready.sound

pub returns-in-Missing-clause-kept : goal.returns-in-Missing-clause-kept
returns-in-Missing-clause-kept g c = unchanged g.B.BlockStore.blocks g.B.BlockStore.step (one_key c.args.at.now.db c.args.key.now) c.args.keyspace.now c.null_array.result c.requires.ready.sound

pub into_reply-requires : goal.into_reply-requires
into_reply-requires g c =
    let p = c.in_ok-pop.ensures.changed in
    subst IsReply p.made.told (listed_is_reply (take c.args.most (from_end c.args.end (or_none p.before))))

pub returns-clause-gives : goal.returns-clause-gives
returns-clause-gives g c =
    let world = visible g.B.BlockStore.blocks c.args.keyspace.now c.args.at.now in
    let p = c.in_ok-pop.ensures.changed in
    many_gives world _ c.args.key.now c.args.end c.args.most _ p.before c.in-There.ensures.list p.from p.now p.form p.stands c.in-There.ensures.has p.made p.world c.into_reply.result
    c.into_reply.ensures

pub returns-clause-kept : goal.returns-clause-kept
returns-clause-kept g c =
    let p = c.in_ok-pop.ensures.changed in
    listed_calm g.B.BlockStore.blocks g.B.BlockStore.step (one_key c.args.at.now.db c.args.key.now) c.args.keyspace.now c.change_list.new.keyspace
    (take c.args.most (from_end c.args.end (or_none p.before))) c.into_reply.result (c.into_reply.ensures ∙ sym p.made.told) c.change_list.ensures.held

pub returns-clause-forms : goal.returns-clause-forms
returns-clause-forms g c =
    let p = c.in_ok-pop.ensures.changed in
    like_there _ g.B.BlockStore.blocks g.B.BlockStore.step c.args.keyspace.now c.change_list.new.keyspace c.args.at.now c.args.key.now p c.change_list.ensures.held c.in-There.ensures.list
    (before_is _ c.args.key.now p.before c.in-There.ensures.list p.stands c.in-There.ensures.has) p.made.form_is
