use Rattle.std.proofs.Common.{◌≡◌, ◌++◌, ap, ◌∙◌, sym, subst}
use Rattle.plain_world.specs.Parts.{IsReply}
use Rattle.plain_model.specs.Scans.{listed}
use Rattle.cmd_sets.proofs.Listed.{listed_is_reply}
use Rattle.cmd_sets.proofs.random.names_reply.Goals as goal

pub into_reply-requires : goal.into_reply-requires
into_reply-requires c =
    let told : c.push_names.new.parts ≡ listed c.args.names.items = c.in_ok-push_names.ensures ∙ ap (λ l. l ++ listed c.args.names.items) c.new-parts.ensures in
    subst IsReply (sym told) (listed_is_reply c.args.names.items)
