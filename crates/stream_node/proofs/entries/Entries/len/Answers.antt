use Rattle.std.proofs.Common.{sym}
use Rattle.stream_node.specs.Rest.{rest_of}
use Rattle.stream_node.specs.Reading.{master_of}
use Rattle.stream_node.proofs.Walks.{length-entries_from}
use Rattle.stream_node.proofs.entries.Entries.len.Goals as goal

pub returns : goal.returns
returns c = let it = c.args.self.now in sym (length-entries_from it.key (master_of it.head) it.left (rest_of it.rest))
