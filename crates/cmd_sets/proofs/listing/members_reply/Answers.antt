use Rattle.std.proofs.Common.{◌≡◌, sym, ◌∙◌, subst}
use Rattle.set_object.specs.Members as object
use Rattle.plain_world.specs.Parts.{IsReply}
use Rattle.plain_model.specs.Scans.{listed}
use Rattle.cmd_sets.proofs.Listed.{are_members, count_is, listed_is_reply, listed_parts}
use Rattle.cmd_sets.proofs.listing.members_reply.Goals as goal

told_here : (g : _) (c : goal.In_ok-push_members g) → c.push_members.new.parts ≡ listed (object.listed (g.B.BlockStore.blocks c.args.store.now) c.args.set.now)
told_here g c =
    let m = g.B.BlockStore.blocks c.args.store.now in
    listed_parts (object.listed m c.args.set.now) c.len.result c.new-parts.result c.push.new.self c.push_members.new.parts c.new-parts.ensures
    (count_is m c.args.set.now c.requires.sound c.len.result (c.len.ensures m c.requires.sound)) c.in_ok-push.ensures.ok c.in_ok-push_members.ensures

pub into_reply-requires : goal.into_reply-requires
into_reply-requires g c = subst IsReply (sym (told_here g c)) (listed_is_reply (object.listed (g.B.BlockStore.blocks c.args.store.now) c.args.set.now))

pub returns : goal.returns
returns g c = are_members (g.B.BlockStore.blocks c.args.store.now) c.args.set.now c.requires.sound c.into_reply.result (c.into_reply.ensures ∙ told_here g c.before)
