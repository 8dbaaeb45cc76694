use Rattle.std.proofs.Common.{◌≡◌, refl}
use Rattle.std.specs.Int.{w64}
use Rattle.std.proofs.lemmas.Int.{to_z-of_z}
use Rattle.plain_model.specs.ListSteps.{remove_equal}
use Rattle.keyspace.specs.Scopes.{one_key}
use Rattle.keyspace.specs.Forms.{AsAt}
use Rattle.keyspace.specs.Commands.{visible}
use Rattle.keyspace.proofs.Forming.{formed_none}
use Rattle.keyspace.proofs.Running.{unchanged}
use Rattle.cmd_lists.specs.Removed.{end_from, most_of}
use Rattle.cmd_lists.proofs.Looking.{refused_other, told_none}
use Rattle.cmd_lists.proofs.Telling.{before_is, formed_as, if_ok, number_calm}
use Rattle.cmd_lists.proofs.Without.{removed_gives}
use Rattle.cmd_lists.proofs.equals.lrem.Goals as goal

pub returns-in-Other-clause-kept : goal.returns-in-Other-clause-kept
returns-in-Other-clause-kept g c = unchanged g.B.BlockStore.blocks g.B.BlockStore.step (one_key c.args.at.now.db c.args.key.now) c.args.keyspace.now c.refused.result c.requires.ready.sound

pub returns-in-Missing-clause-kept : goal.returns-in-Missing-clause-kept
returns-in-Missing-clause-kept g c = unchanged g.B.BlockStore.blocks g.B.BlockStore.step (one_key c.args.at.now.db c.args.key.now) c.args.keyspace.now c.count_reply.result c.requires.ready.sound

pub returns-clause-gives : goal.returns-clause-gives
returns-clause-gives g c =
    let world = visible g.B.BlockStore.blocks c.args.keyspace.now c.args.at.now in
    let p = c.in_ok-remove.ensures.changed in
    let end : c.end_of.result ≡ end_from c.args.n = rw (to_z-of_z w64 c.args.n c.ranges.n) at c.end_of.ensures in
    let wanted : c.most.result ≡ most_of c.args.n = rw (to_z-of_z w64 c.args.n c.ranges.n) at c.most.ensures in
    removed_gives world _ c.args.key.now c.args.n c.args.element.now _ p.before c.in-There.ensures.list p.now p.stands c.in-There.ensures.has (rw (end, wanted) at p.made.removes) p.world
    c.count_reply-2.result c.count_reply-2.ensures

pub returns-clause-forms : goal.returns-clause-forms
returns-clause-forms g c =
    let stores = g.B.BlockStore.blocks in
    let p = c.in_ok-remove.ensures.changed in
    formed_as _ stores g.B.BlockStore.step c.args.keyspace.now c.change_list.new.keyspace c.args.at.now c.args.key.now p c.change_list.ensures.held c.in-There.ensures.list
    (before_is _ c.args.key.now p.before c.in-There.ensures.list p.stands c.in-There.ensures.has) p.made.form_is _

pub returns-in-Other-clause-gives : goal.returns-in-Other-clause-gives
returns-in-Other-clause-gives g c =
    let world = visible g.B.BlockStore.blocks c.args.keyspace.now c.args.at.now in
    refused_other world c.args.key.now (remove_equal world c.args.key.now c.args.n c.args.element.now) c.refused.result c.in-Other.ensures c.refused.ensures

pub returns-in-Missing-clause-gives : goal.returns-in-Missing-clause-gives
returns-in-Missing-clause-gives g c =
    let world = visible g.B.BlockStore.blocks c.args.keyspace.now c.args.at.now in
    told_none world c.args.key.now (remove_equal world c.args.key.now c.args.n c.args.element.now) c.count_reply.result c.in-Missing.ensures c.count_reply.ensures refl

pub returns-clause-kept : goal.returns-clause-kept
returns-clause-kept g c = number_calm g.B.BlockStore.blocks g.B.BlockStore.step (one_key c.args.at.now.db c.args.key.now) c.args.keyspace.now c.change_list.new.keyspace _
    c.count_reply-2.result c.count_reply-2.ensures c.change_list.ensures.held

pub returns-in-Other-clause-forms : goal.returns-in-Other-clause-forms
returns-in-Other-clause-forms g c = if_ok c.refused.result (formed_none g.B.BlockStore.blocks (AsAt c.args.at.now.db c.args.key.now) c.args.keyspace.now)

pub returns-in-Missing-clause-forms : goal.returns-in-Missing-clause-forms
returns-in-Missing-clause-forms g c = if_ok c.count_reply.result (formed_none g.B.BlockStore.blocks (AsAt c.args.at.now.db c.args.key.now) c.args.keyspace.now)
