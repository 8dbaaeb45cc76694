use Rattle.std.proofs.Common.{arith}
use Rattle.command_table.proofs.PendingWords.{pending_more}
use Rattle.command_table.proofs.streams.pending.Goals as goal

pub returns-then-len-ne3 : goal.returns-then-len-ne3
returns-then-len-ne3 c = pending_more c.args.request.now (omega (arith, c.if-len-lt3.false, c.if-len-ne3.true, c.len.ensures.len, c.len-2.ensures.len))
