use Rattle.std.proofs.Common.{◌≡◌, ◌∷◌, length, flat_map, sym, ◌∙◌, subst}
use Rattle.hash_object.specs.Items.{pair_at}
use Rattle.plain_world.specs.Parts.{IsReply}
use Rattle.plain_world.specs.declared.reply.Part.TheVariants.{Array}
use Rattle.cmd_hashes.specs.Listed.{told_of, replies_of}
use Rattle.cmd_hashes.specs.Picked.{pairs_of}
use Rattle.cmd_hashes.proofs.Picking.{items_are_reply, items_parts}
use Rattle.cmd_hashes.proofs.random.items_reply.Goals as goal

pub into_reply-requires : goal.into_reply-requires
into_reply-requires g c =
    let rest = flat_map (told_of c.args.told) (pairs_of (λ at. pair_at (g.B.BlockStore.blocks c.args.store.now) c.args.hash.now at) c.args.items.now) in
    let is : c.push_items.new.parts ≡ Array (replies_of c.args.told (length c.args.items.now)) ∷ rest =
    items_parts c.args.told (length c.args.items.now) c.in_ok-reply_count.field-0 c.new-parts.result c.push.new.self c.push_items.new.parts rest c.new-parts.ensures
    c.in_ok-reply_count.ensures c.in_ok-push.ensures.ok c.in_ok-push_items.ensures in
    subst IsReply (sym is) (items_are_reply c.args.told (λ at. pair_at (g.B.BlockStore.blocks c.args.store.now) c.args.hash.now at) c.args.items.now)

pub returns : goal.returns
returns g c =
    let rest = flat_map (told_of c.args.told) (pairs_of (λ at. pair_at (g.B.BlockStore.blocks c.args.store.now) c.args.hash.now at) c.args.items.now) in
    c.into_reply.ensures
    ∙ items_parts c.args.told (length c.args.items.now) c.in_ok-reply_count.field-0 c.new-parts.result c.push.new.self c.push_items.new.parts rest c.new-parts.ensures
    c.in_ok-reply_count.ensures c.in_ok-push.ensures.ok c.in_ok-push_items.ensures
