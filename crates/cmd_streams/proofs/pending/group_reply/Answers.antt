use Rattle.std.proofs.Common.{sym}
use Rattle.std.specs.FinMap.{get}
use Rattle.cmd_streams.proofs.Sharing.{waiting_leaves}
use Rattle.cmd_streams.proofs.pending.group_reply.Goals as goal

pub returns-in-Some : goal.returns-in-Some
returns-in-Some c = waiting_leaves (get c.args.stream.now.groups c.args.name.now) c.in-Some.pending c.in_ok-pending.field-0 (sym c.in-Some.is) c.in_ok-pending.ensures
    c.pending_reply.result c.pending_reply.ensures
