use Rattle.cmd_lists.proofs.Places.{numbers_reply}
use Rattle.cmd_lists.proofs.positions.numbers_reply.Goals as goal

pub into_reply-requires : goal.into_reply-requires
into_reply-requires c = numbers_reply c.args.indexes.now _ _ c.in_ok-reply.ensures c.in_ok-push_numbers.ensures
