use Rattle.std.proofs.Common.{refl, arith}
use Rattle.std.proofs.lemmas.List.{length-take-le}
use Rattle.stream_node.specs.Rest.{rest_of}
use Rattle.stream_node.specs.Reading.{master_of}
use Rattle.stream_node.proofs.Rests.{no_some, when_none}
use Rattle.stream_node.proofs.Sizes.{few_left}
use Rattle.stream_node.proofs.Bodies.{lacks_values, lacks_values_end, is_values}
use Rattle.stream_node.proofs.body.Body.read_values.Goals as goal

pub returns-in_err-end-clause-some : goal.returns-in_err-end-clause-some
returns-in_err-end-clause-some c = no_some _ _ c.from_residual.ensures

pub returns-in_err-end-clause-same : goal.returns-in_err-end-clause-same
returns-in_err-end-clause-same c = no_some _ _ c.from_residual.ensures

pub returns-in_err-behind-clause-some : goal.returns-in_err-behind-clause-some
returns-in_err-behind-clause-some c = no_some _ _ c.from_residual-in_err-behind.ensures

pub returns-in_err-behind-clause-same : goal.returns-in_err-behind-clause-same
returns-in_err-behind-clause-same c = no_some _ _ c.from_residual-in_err-behind.ensures

pub overflow_add-len : goal.overflow_add-len
overflow_add-len c = record { fits = omega (arith, c.in_ok-end.ensures.enough, few_left c.args.list.now) }

pub skip_number-requires : goal.skip_number-requires
skip_number-requires c = omega (arith, c.in_ok-end.ensures.enough, few_left c.args.list.now)

pub invariant_of-body : goal.invariant_of-body
invariant_of-body c = record { all_fields = c.args.head.now.enough; all_values = c.in_ok-end.ensures.enough }

pub returns-in_err-end-clause-none : goal.returns-in_err-end-clause-none
returns-in_err-end-clause-none c =
    let head = c.args.head.now in
    let many = length-take-le head.count (rest_of head.fields) head.enough in
    when_none _ (lacks_values (master_of head) (rest_of c.args.list.now) (omega (arith, many, c.in_err-end.ensures.none)))

pub returns-in_err-behind-clause-none : goal.returns-in_err-behind-clause-none
returns-in_err-behind-clause-none c =
    let head = c.args.head.now in
    let many = length-take-le head.count (rest_of head.fields) head.enough in
    when_none _ (lacks_values_end (master_of head) (rest_of c.args.list.now) (rest_of c.in_ok-end.end) head.count many c.in_ok-end.ensures.some c.in_err-behind.ensures.none)

pub returns-clause-some : goal.returns-clause-some
returns-clause-some c =
    let head = c.args.head.now in
    let many = length-take-le head.count (rest_of head.fields) head.enough in
    is_values (master_of head) (rest_of c.args.list.now) (rest_of c.in_ok-end.end) (rest_of c.in_ok-behind.behind) head.count many c.in_ok-end.ensures.enough c.in_ok-end.ensures.some
    c.in_ok-behind.ensures.some

pub returns-clause-same : goal.returns-clause-same
returns-clause-same c = refl

pub returns-clause-none : goal.returns-clause-none
returns-clause-none c = tt
