use Rattle.std.proofs.Common.{sym}
use Rattle.stream_node.proofs.PairsAt.{length-pairs}
use Rattle.stream_node.proofs.body.Body.len.Goals as goal

pub returns : goal.returns
returns c = sym (length-pairs c.args.self.now)
