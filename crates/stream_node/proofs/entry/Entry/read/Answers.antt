use Rattle.stream_node.specs.Rest.{rest_of}
use Rattle.stream_node.specs.Reading.{master_of}
use Rattle.stream_node.proofs.EntryFaults.{lacks_start, lacks_body, is_after}
use Rattle.stream_node.proofs.entry.Entry.read.Goals as goal

pub returns-in_default-clause-err : goal.returns-in_default-clause-err
returns-in_default-clause-err c = lacks_start c.args.key (master_of c.args.head.now) (rest_of c.args.list.now) c.args.before c.in_default.ensures.none

pub returns-in-None-clause-err : goal.returns-in-None-clause-err
returns-in-None-clause-err c =
    lacks_body c.args.key (master_of c.args.head.now) (rest_of c.args.list.now) (rest_of c.in-Some.behind) c.args.before c.in-Some.start.deleted c.in-Some.start.same c.in-Some.start.id
    c.in-Some.ensures.some
    (is_after c.args.before c.in-Some.start.id c.is_after.result c.is_after.ensures c.if-not-is_after.false)
    c.in-None.ensures.none
