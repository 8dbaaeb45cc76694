use Rattle.std.proofs.Common.{◌+◌, Some, sym, subst, arith}
use Rattle.stream_node.specs.declared.id.Id.{Id}
use Rattle.stream_node.specs.declared.fault.NodeFault.{NodeFault}
use Rattle.stream_node.specs.Node.{IsHead, IsFault}
use Rattle.stream_node.proofs.Lists.{Texts}
use Rattle.stream_node.proofs.Rests.{when_err}
use Rattle.stream_node.specs.Rest.{rest_of}
use Rattle.stream_node.specs.Reading.{master_of}
use Rattle.stream_node.specs.View.{stored}
use Rattle.stream_node.proofs.Checks.{IsPassed, marks_one, none_passed, one_passed, entry_fault, more_behind, other_marks, all_passed, passed_walk}
use Rattle.stream_node.proofs.node.check_entries.Goals as goal

pub loop-init : goal.loop-init
loop-init c = none_passed c.args.key (master_of c.args.head.now) (rest_of c.args.first.now)

pub returns-in_err-entry-clause-fault : goal.returns-in_err-entry-clause-fault
returns-in_err-entry-clause-fault c =
    let key = c.args.key in
    let head = c.args.head.now in
    let first = rest_of c.args.first.now in
    let Q : NodeFault → Type 0 = λ e. (list : Texts) → IsHead list head.live head.deleted (master_of head) first → IsFault key list e in
    when_err c.from_residual.result c.in_err-entry.field-0.0 Q c.from_residual.ensures.1
    (entry_fault key (master_of head) first (rest_of c.loop.rest) c.loop.last c.loop.marked c.loop.counter head.live head.deleted c.in_err-entry.field-0.0 c.loop.invariant (omega arith)
    c.in_err-entry.ensures.err)

pub loop-preserved : goal.loop-preserved
loop-preserved c =
    let entry = stored c.in_ok-entry.entry in
    let one = marks_one c.from-marked.result c.deleted.result entry.deleted c.from-marked.ensures c.deleted.ensures in
    subst
    (λ (id : Id). IsPassed c.args.key (master_of c.args.head.now) (rest_of c.args.first.now) (rest_of c.in_ok-entry.behind) (Some id) (c.loop.marked + c.from-marked.result)
    (c.loop.counter + 1)) (sym c.id.ensures)
    (one_passed c.args.key (master_of c.args.head.now) (rest_of c.args.first.now) (rest_of c.loop.rest) (rest_of c.in_ok-entry.behind) c.loop.last c.loop.marked c.loop.counter
    c.from-marked.result entry
    c.loop.invariant c.in_ok-entry.ensures.ok c.in_ok-entry.ensures.after one.0 one.1)

pub returns-then-len-gt0-clause-fault : goal.returns-then-len-gt0-clause-fault
returns-then-len-gt0-clause-fault c =
    let head = c.args.head.now in
    more_behind c.args.key (master_of head) (rest_of c.args.first.now) (rest_of c.loop.rest) c.loop.last c.loop.marked c.loop.counter head.live head.deleted c.loop.invariant (omega arith)
    (omega arith)

pub returns-then-marked-head-clause-fault : goal.returns-then-marked-head-clause-fault
returns-then-marked-head-clause-fault c =
    let head = c.args.head.now in
    other_marks c.args.key (master_of head) (rest_of c.args.first.now) (rest_of c.loop.rest) c.loop.last c.loop.marked c.loop.counter head.live head.deleted c.loop.invariant (omega arith)
    (omega arith) c.if-marked-head.true

pub returns-clause-ok : goal.returns-clause-ok
returns-clause-ok c =
    let head = c.args.head.now in
    all_passed c.args.key (master_of head) (rest_of c.args.first.now) (rest_of c.loop.rest) c.loop.last c.loop.marked c.loop.counter head.live head.deleted c.loop.invariant (omega arith)
    (omega arith) c.if-marked-head.false

pub returns-clause-walk : goal.returns-clause-walk
returns-clause-walk c =
    let head = c.args.head.now in
    passed_walk c.args.key head c.args.first.now (rest_of c.loop.rest) c.loop.last c.loop.marked c.loop.counter c.loop.invariant (omega arith) (omega arith)
