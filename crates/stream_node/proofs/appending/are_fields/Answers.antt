use Rattle.std.proofs.Common.{arith}
use Rattle.stream_node.specs.Rest.{rest_of}
use Rattle.stream_node.proofs.FieldsAt.{other_field, no_field, one_field}
use Rattle.stream_node.proofs.appending.are_fields.Goals as goal

pub returns-then-not-is_text : goal.returns-then-not-is_text
returns-then-not-is_text c = (
  λ f. let never : ⊥ = cc in absurd never,
  λ same. absurd (other_field (rest_of c.args.list.now) (rest_of c.loop-index.rest) (rest_of c.in-Some.behind) c.args.pairs.now c.loop-index.index c.is_text.result _ c.field.result.now
      (omega arith) c.loop-index.invariant.1 c.in-Some.ensures.some c.field.ensures c.is_text.ensures c.if-not-is_text.true same),
)

pub returns-in-None : goal.returns-in-None
returns-in-None c = (
  λ f. let never : ⊥ = cc in absurd never,
  λ same. absurd (no_field (rest_of c.args.list.now) (rest_of c.loop-index.rest) c.args.pairs.now c.loop-index.index (omega arith) c.loop-index.invariant.1 c.in-None.ensures.none same),
)

pub loop-index-preserved : goal.loop-index-preserved
loop-index-preserved c =
    one_field (rest_of c.args.list.now) (rest_of c.loop-index.rest) (rest_of c.in-Some.behind) c.args.pairs.now c.loop-index.index c.is_text.result _ c.field.result.now
    (omega arith) c.loop-index.invariant.0 c.loop-index.invariant.1 c.loop-index.invariant.2 c.in-Some.ensures.some c.field.ensures c.is_text.ensures c.if-not-is_text.false
