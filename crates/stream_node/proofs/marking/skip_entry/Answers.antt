use Rattle.std.proofs.Common.{sym}
use Rattle.stream_node.specs.Rest.{rest_of}
use Rattle.stream_node.specs.Reading.{master_of}
use Rattle.stream_node.proofs.ReadBack.{reads_entry}
use Rattle.stream_node.proofs.marking.skip_entry.Goals as goal

pub returns-in-Ok-clause-ok : goal.returns-in-Ok-clause-ok
returns-in-Ok-clause-ok c = let r = reads_entry _ (master_of c.args.head.now) (rest_of c.args.list.now) _ (rest_of c.in-Ok.behind) c.in-Ok.ensures.ok in sym r.1
