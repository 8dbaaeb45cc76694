use Rattle.std.proofs.Common.{◌≡◌, ◌==◌, ◌∷◌, [], ◌++◌, false, length, flat_map, rules, sym, ap, subst, ◌∙◌}
use Rattle.plain_world.specs.Parts.{IsReply}
use Rattle.plain_world.specs.declared.reply.Part.TheVariants.{Array}
use Rattle.cmd_streams.specs.Handed.{key_parts}
use Rattle.cmd_streams.proofs.Replies.{is_reply}
use Rattle.cmd_streams.proofs.Handouts.{handed_told, handed_one}
use Rattle.cmd_streams.proofs.delivering.handed_reply.Goals as goal

keys_here : (c : goal.In_ok-push_keys) → c.push_keys.new.parts ≡ Array (length c.args.found.now) ∷ flat_map key_parts c.args.found.now
keys_here c =
    c.in_ok-push_keys.ensures
    ∙ ap (λ l. l ++ flat_map key_parts c.args.found.now) (c.in_ok-push-2.ensures.ok ∙ ap (λ l. l ++ Array (length c.args.found.now) ∷ []) c.new-parts.ensures)

pub into_reply-requires-2 : goal.into_reply-requires-2
into_reply-requires-2 c =
    let found = c.args.found.now in
    subst IsReply (sym (keys_here c)) (is_reply (Array (length found) ∷ flat_map key_parts found) (handed_one found))

pub returns : goal.returns
returns c =
    let some : (length c.args.found.now == 0) ≡ false = search rules in
    c.into_reply-2.ensures ∙ keys_here c.before ∙ sym (handed_told c.args.found.now some)
