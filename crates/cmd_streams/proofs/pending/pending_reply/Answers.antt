use Rattle.std.proofs.Common.{◌≡◌, rules, sym, subst}
use Rattle.stream_object.specs.Groups.{waiting_of}
use Rattle.plain_world.specs.Parts.{IsReply}
use Rattle.cmd_streams.specs.Pending.{waiting_told}
use Rattle.cmd_streams.proofs.Sharing.{waiting_reply}
use Rattle.cmd_streams.proofs.pending.pending_reply.Goals as goal

pub into_reply-requires : goal.into_reply-requires
into_reply-requires c =
    let here : c.push_owners.new.parts ≡ waiting_told (waiting_of c.args.pending.now) = search rules in
    subst IsReply (sym here) (waiting_reply (waiting_of c.args.pending.now))
