use Rattle.std.proofs.Common.{arith}
use Rattle.listpack.specs.Element.{element_text}
use Rattle.stream_node.specs.Rest.{rest_of}
use Rattle.stream_node.proofs.PairsAt.{pairs_none, split_pairs, split_enough, not_unsplit}
use Rattle.stream_node.proofs.body.Body.split_first.Goals as goal

pub returns-then-self-eq0-clause-none : goal.returns-then-self-eq0-clause-none
returns-then-self-eq0-clause-none c = pairs_none c.args.self.now c.if-self-eq0.true

pub invariant_of-result : goal.invariant_of-result
invariant_of-result c =
    let b = c.args.self.now in
    let enough = split_enough b.same b.len (rest_of b.fields) (rest_of b.values) (rest_of c.in-Some.fields) (rest_of c.in-Some.values) (element_text c.in-Some.field, element_text c.in-Some.value)
    (omega arith) c.in-Some.ensures.some b.all_fields b.all_values in
    record { all_fields = enough.0; all_values = enough.1 }

pub unreachable-requires : goal.unreachable-requires
unreachable-requires c =
    let b = c.args.self.now in
    not_unsplit b.same b.len (rest_of b.fields) (rest_of b.values) (omega arith) b.all_fields b.all_values c.in-None.ensures.none

pub returns-clause-some : goal.returns-clause-some
returns-clause-some c =
    let b = c.args.self.now in
    split_pairs b.same b.len (rest_of b.fields) (rest_of b.values) (rest_of c.in-Some.fields) (rest_of c.in-Some.values) (element_text c.in-Some.field, element_text c.in-Some.value)
    (omega arith) c.in-Some.ensures.some
