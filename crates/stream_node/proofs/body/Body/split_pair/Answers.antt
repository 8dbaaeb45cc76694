use Rattle.listpack.specs.Element.{element_text}
use Rattle.stream_node.specs.Rest.{rest_of}
use Rattle.stream_node.proofs.Rests.{when_none}
use Rattle.stream_node.proofs.PairsAt.{unsplit_fields, unsplit_values, unsplit_second, split_same, split_own}
use Rattle.stream_node.proofs.body.Body.split_pair.Goals as goal

pub returns-in_err-field-clause-none : goal.returns-in_err-field-clause-none
returns-in_err-field-clause-none c =
    let b = c.args.self.now in
    when_none _ (unsplit_fields b.same (rest_of b.fields) (rest_of b.values) c.in_err-field.ensures.none)

pub returns-in_err-value-clause-none : goal.returns-in_err-value-clause-none
returns-in_err-value-clause-none c =
    let b = c.args.self.now in
    when_none _ (unsplit_values b.same (rest_of b.fields) (rest_of b.values) c.if-self.true c.in_err-value.ensures.none)

pub returns-in_err-value-2-clause-none : goal.returns-in_err-value-2-clause-none
returns-in_err-value-2-clause-none c =
    let b = c.args.self.now in
    when_none _ (unsplit_second b.same (rest_of b.fields) (rest_of b.values) (rest_of c.in_ok-field.behind) _ c.if-self.false c.in_ok-field.ensures.some c.in_err-value-2.ensures.none)

pub returns-in_ok-value-clause-some : goal.returns-in_ok-value-clause-some
returns-in_ok-value-clause-some c =
    let b = c.args.self.now in
    split_same b.same (rest_of b.fields) (rest_of b.values) (rest_of c.in_ok-field.behind) (rest_of c.in_ok-value.values) (element_text c.in_ok-field.field, element_text c.in_ok-value.value)
    c.if-self.true c.in_ok-field.ensures.some c.in_ok-value.ensures.some

pub returns-in_ok-value-2-clause-some : goal.returns-in_ok-value-2-clause-some
returns-in_ok-value-2-clause-some c =
    let b = c.args.self.now in
    split_own b.same (rest_of b.fields) (rest_of b.values) (rest_of c.in_ok-field.behind) (rest_of c.in_ok-value-2.fields) (element_text c.in_ok-field.field, element_text c.in_ok-value-2.value)
    c.if-self.false c.in_ok-field.ensures.some c.in_ok-value-2.ensures.some
