use Rattle.std.proofs.Common.{refl, arith}
use Rattle.stream_node.specs.Rest.{rest_of}
use Rattle.stream_node.specs.Reading.{master_of}
use Rattle.stream_node.proofs.Rests.{no_some, when_none}
use Rattle.stream_node.proofs.Sizes.{few_left}
use Rattle.stream_node.proofs.Bodies.{lacks_len, lacks_some_pair, lacks_pairs, lacks_pairs_end, is_pairs}
use Rattle.stream_node.proofs.body.Body.read_pairs.Goals as goal

pub returns-in_err-len-clause-some : goal.returns-in_err-len-clause-some
returns-in_err-len-clause-some c = no_some _ _ c.from_residual.ensures

pub returns-in_err-len-clause-same : goal.returns-in_err-len-clause-same
returns-in_err-len-clause-same c = no_some _ _ c.from_residual.ensures

pub returns-in_err-end-clause-some : goal.returns-in_err-end-clause-some
returns-in_err-end-clause-some c = no_some _ _ c.from_residual-in_err-end.ensures

pub returns-in_err-end-clause-same : goal.returns-in_err-end-clause-same
returns-in_err-end-clause-same c = no_some _ _ c.from_residual-in_err-end.ensures

pub returns-in_err-behind-clause-some : goal.returns-in_err-behind-clause-some
returns-in_err-behind-clause-some c = no_some _ _ c.from_residual-in_err-behind.ensures

pub returns-in_err-behind-clause-same : goal.returns-in_err-behind-clause-same
returns-in_err-behind-clause-same c = no_some _ _ c.from_residual-in_err-behind.ensures

pub overflow_mul-len : goal.overflow_mul-len
overflow_mul-len c = omega (arith, c.in_ok-len.ensures.small)

pub overflow_mul-len-2 : goal.overflow_mul-len-2
overflow_mul-len-2 c = omega (arith, c.in_ok-len.ensures.small)

pub overflow_add-len : goal.overflow_add-len
overflow_add-len c = record { fits = omega (arith, c.in_ok-end.ensures.enough, few_left c.in_ok-len.fields) }

pub skip_number-requires : goal.skip_number-requires
skip_number-requires c = omega (arith, c.in_ok-end.ensures.enough, few_left c.in_ok-len.fields)

pub invariant_of-body : goal.invariant_of-body
invariant_of-body c = record { all_fields = c.in_ok-end.ensures.enough; all_values = omega arith }

pub returns-in_err-len-clause-none : goal.returns-in_err-len-clause-none
returns-in_err-len-clause-none c = when_none _ (lacks_len (master_of c.args.head.now) (rest_of c.args.list.now) c.in_err-len.ensures.none)

pub returns-then-len-eq0-clause-none : goal.returns-then-len-eq0-clause-none
returns-then-len-eq0-clause-none c =
    lacks_some_pair (master_of c.args.head.now) (rest_of c.args.list.now) (rest_of c.in_ok-len.fields) c.in_ok-len.len c.in_ok-len.ensures.small c.in_ok-len.ensures.some c.if-len-eq0.true

pub returns-in_err-end-clause-none : goal.returns-in_err-end-clause-none
returns-in_err-end-clause-none c =
    when_none _
    (lacks_pairs (master_of c.args.head.now) (rest_of c.args.list.now) (rest_of c.in_ok-len.fields) c.in_ok-len.len c.in_ok-len.ensures.small c.in_ok-len.ensures.some
    c.in_err-end.ensures.none)

pub returns-in_err-behind-clause-none : goal.returns-in_err-behind-clause-none
returns-in_err-behind-clause-none c =
    when_none _
    (lacks_pairs_end (master_of c.args.head.now) (rest_of c.args.list.now) (rest_of c.in_ok-len.fields) (rest_of c.in_ok-end.end) c.in_ok-len.len c.in_ok-len.ensures.small
    c.in_ok-len.ensures.some
    c.in_ok-end.ensures.some c.in_err-behind.ensures.none)

pub returns-clause-some : goal.returns-clause-some
returns-clause-some c =
    is_pairs (master_of c.args.head.now) (rest_of c.args.list.now) (rest_of c.in_ok-len.fields) (rest_of c.in_ok-end.end) (rest_of c.in_ok-behind.behind) c.in_ok-len.len
    c.in_ok-len.ensures.small (omega (arith, c.if-len-eq0.false))
    c.in_ok-len.ensures.some c.in_ok-end.ensures.enough c.in_ok-end.ensures.some c.in_ok-behind.ensures.some

pub returns-clause-same : goal.returns-clause-same
returns-clause-same c = refl

pub returns-clause-none : goal.returns-clause-none
returns-clause-none c = tt
