use Rattle.std.proofs.Common.{ap, ◌∙◌}
use Rattle.set_object.specs.Members.{members}
use Rattle.set_object.specs.Items.{member_at}
use Rattle.picking.specs.Elements.{elements_of}
use Rattle.cmd_sets.proofs.Picking.{members_picked, picks_tell}
use Rattle.cmd_sets.proofs.random.random_reply.Goals as goal

pub returns : goal.returns
returns g c =
    let m = g.B.BlockStore.blocks c.args.store.now in
    let items = c.in_ok-items.items.items in
    picks_tell c.args.n c.is_some.result (members m c.args.set.now) c.in_ok-names.names.items (elements_of (λ at. member_at m c.args.set.now at) items)
    (members_picked m c.args.set.now c.requires.sound c.args.n items c.in_ok-items.ensures)
    (c.in_ok-names.ensures ∙ ap (elements_of (λ at. member_at m c.args.set.now at)) c.deref.ensures.value) c.is_some.ensures c.picks_reply.result c.picks_reply.ensures
