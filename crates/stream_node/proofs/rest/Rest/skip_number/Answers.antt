use Rattle.stream_node.specs.Rest.{rest_of}
use Rattle.stream_node.proofs.Rests.{another_number}
use Rattle.stream_node.proofs.rest.Rest.skip_number.Goals as goal

pub returns-else-count-due-clause-none : goal.returns-else-count-due-clause-none
returns-else-count-due-clause-none c =
    another_number (rest_of c.args.self.now) (rest_of c.in_ok-count.behind) c.in_ok-count.count c.args.due c.in_ok-count.ensures.small c.requires c.in_ok-count.ensures.some c.if-count-due.false
