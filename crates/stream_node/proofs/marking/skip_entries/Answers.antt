use Rattle.std.proofs.Common.{sym, ap, ◌∙◌, arith}
use Rattle.stream_node.specs.Entries.{behind_entry}
use Rattle.stream_node.specs.Rest.{rest_of}
use Rattle.stream_node.specs.Reading.{master_of}
use Rattle.stream_node.proofs.Markings.{behind_none, behind_push, no_fault_there}
use Rattle.stream_node.proofs.marking.skip_entries.Goals as goal

pub loop-init : goal.loop-init
loop-init c = behind_none (master_of c.args.head.now) (rest_of c.args.first.now)

pub returns-in-Err-clause-none : goal.returns-in-Err-clause-none
returns-in-Err-clause-none c =
    no_fault_there _ (master_of c.args.head.now) (rest_of c.args.first.now) (rest_of c.loop.rest) c.loop.counter c.args.count c.in-Err.field-0 c.loop.invariant (omega arith) c.in-Err.ensures.err

pub loop-preserved : goal.loop-preserved
loop-preserved c =
    let master = master_of c.args.head.now in
    c.in-Ok.ensures.ok ∙ ap (behind_entry master) c.loop.invariant ∙ sym (behind_push master c.loop.counter (rest_of c.args.first.now))
