use Rattle.cmd_streams.proofs.Handouts.{waiting_told}
use Rattle.cmd_streams.proofs.delivering.push_waiting.Goals as goal

pub returns : goal.returns
returns c = waiting_told c.push_each_again.result c.args.parts.now c.push.new.self c.push_each_again.new.parts c.args.list.now c.in_ok-push.ensures.ok c.push_each_again.ensures
