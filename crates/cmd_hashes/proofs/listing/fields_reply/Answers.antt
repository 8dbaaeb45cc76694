use Rattle.std.proofs.Common.{◌≡◌, ◌∷◌, length, flat_map, sym, ◌∙◌, subst}
use Rattle.hash_object.specs.Fields as object
use Rattle.plain_world.specs.Parts.{IsReply}
use Rattle.plain_world.specs.declared.reply.Part.TheVariants.{Array}
use Rattle.cmd_hashes.specs.Listed.{told_of, replies_of}
use Rattle.cmd_hashes.proofs.Listed.{tells_fields, count_is, told_is_reply, told_parts}
use Rattle.cmd_hashes.proofs.listing.fields_reply.Goals as goal

told_here : (g : _) (c : goal.In_ok-push_fields g) → c.push_fields.new.parts ≡ Array
    (replies_of c.args.told (length (object.listed (g.B.BlockStore.blocks c.args.store.now) c.args.hash.now)))
    ∷ flat_map (told_of c.args.told) (object.listed (g.B.BlockStore.blocks c.args.store.now) c.args.hash.now)
told_here g c =
    let m = g.B.BlockStore.blocks c.args.store.now in
    told_parts c.args.told (object.listed m c.args.hash.now) c.len.result c.in_ok-reply_count.field-0 c.new-parts.result c.push.new.self c.push_fields.new.parts c.new-parts.ensures
    (count_is m c.args.hash.now c.requires.sound c.len.result (c.len.ensures m c.requires.sound)) c.in_ok-reply_count.ensures c.in_ok-push.ensures.ok c.in_ok-push_fields.ensures

pub into_reply-requires : goal.into_reply-requires
into_reply-requires g c = subst IsReply (sym (told_here g c)) (told_is_reply c.args.told (object.listed (g.B.BlockStore.blocks c.args.store.now) c.args.hash.now))

pub returns : goal.returns
returns g c = tells_fields c.args.told (g.B.BlockStore.blocks c.args.store.now) c.args.hash.now c.requires.sound c.into_reply.result (c.into_reply.ensures ∙ told_here g c.before)
