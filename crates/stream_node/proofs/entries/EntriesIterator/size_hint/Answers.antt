use Rattle.std.proofs.Common.{arith}
use Rattle.stream_node.specs.Rest.{rest_of}
use Rattle.stream_node.specs.Reading.{master_of}
use Rattle.stream_node.proofs.Walks.{length-entries_from}
use Rattle.stream_node.proofs.entries.EntriesIterator.size_hint.Goals as goal

pub returns-clause-lower : goal.returns-clause-lower
returns-clause-lower c = let it = c.args.self.now in λ _. omega (arith, length-entries_from it.key (master_of it.head) it.left (rest_of it.rest))

pub returns-clause-upper : goal.returns-clause-upper
returns-clause-upper c = let it = c.args.self.now in (tt, omega (arith, length-entries_from it.key (master_of it.head) it.left (rest_of it.rest)))
