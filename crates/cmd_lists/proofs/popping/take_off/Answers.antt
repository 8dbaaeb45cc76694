use Rattle.cmd_lists.proofs.Meeting.{tail_taken}
use Rattle.std.proofs.Common.{◌∙◌}
use Rattle.cmd_lists.proofs.popping.take_off.Goals as goal

pub returns-in-Tail-clause-list : goal.returns-in-Tail-clause-list
returns-in-Tail-clause-list g c =
    tail_taken _ _ c.args.list.now c.remove_range-in-Tail.new.self c.args.end c.len-len.result c.args.count c.in-Tail.is (c.len-len.ensures ∙ c.requires.quick.counted) c.requires.inside
    c.remove_range-in-Tail.result c.remove_range-in-Tail.ensures.changed
