use Rattle.std.proofs.Common.{◌∙◌}
use Rattle.blocks.proofs.Serve.{served_then}
use Rattle.cmd_lists.proofs.Setting.{left_is}
use Rattle.cmd_lists.proofs.trimming.leave.Goals as goal

pub returns-clause-list : goal.returns-clause-list
returns-clause-list g c =
    left_is _ _ _ c.args.list.now c.remove_range.new.self c.remove_range-2.new.self c.args.first c.args.count c.len-len.result (c.len-len.ensures ∙ c.requires.quick.counted)
    c.in_ok-remove_range.ensures.changed c.remove_range-2.result c.remove_range-2.ensures.changed

pub returns-clause-served : goal.returns-clause-served
returns-clause-served g c = served_then _ _ _ c.remove_range.ensures.served c.remove_range-2.ensures.served
