use Rattle.std.proofs.Common.{◌≡◌, ◌∷◌, length, sym, ◌∙◌, subst}
use Rattle.set_object.specs.Members.{members}
use Rattle.plain_world.specs.Parts.{IsReply}
use Rattle.plain_world.specs.declared.reply.Part.TheVariants.{Array}
use Rattle.cmd_sets.specs.Found.{told_each}
use Rattle.cmd_sets.proofs.Telling.{each_is_reply, each_parts}
use Rattle.cmd_sets.proofs.reading.each_reply.Goals as goal

told_here : (g : _) (c : goal.In_ok-push_each g) → c.push_each.new.parts ≡ Array (length c.args.words.now)
    ∷ told_each (members (g.B.BlockStore.blocks c.args.store.now) c.args.set.now) c.args.words.now
told_here g c =
    each_parts (members (g.B.BlockStore.blocks c.args.store.now) c.args.set.now) c.args.words.now _ _ c.push_each.new.parts c.new-reply.ensures c.in_ok-push.ensures.ok c.in_ok-push_each.ensures

pub into_reply-requires : goal.into_reply-requires
into_reply-requires g c = subst IsReply (sym (told_here g c)) (each_is_reply (members (g.B.BlockStore.blocks c.args.store.now) c.args.set.now) c.args.words.now)

pub returns : goal.returns
returns g c = c.into_reply.ensures ∙ told_here g c.before
