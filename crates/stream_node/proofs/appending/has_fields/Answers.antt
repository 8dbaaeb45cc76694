use Rattle.std.proofs.Common.{◌∙◌, arith, sym}
use Rattle.std.proofs.lemmas.Bool.{ne_eqb}
use Rattle.std.proofs.lemmas.List.{length-map, length-take-le}
use Rattle.stream_node.specs.Entry.{Pair, fields_of}
use Rattle.stream_node.specs.Rest.{rest_of}
use Rattle.stream_node.specs.Reading.{master_of}
use Rattle.stream_node.proofs.FieldsAt.{same_as_many, other_lengths}
use Rattle.stream_node.proofs.appending.has_fields.Goals as goal

pub returns-then-head-len : goal.returns-then-head-len
returns-then-head-len c =
    same_as_many c.are_fields.result (fields_of c.args.pairs.now) (rest_of c.args.head.now.fields) _ c.args.head.now.count (sym c.len.ensures ∙ sym c.if-head-len.true) c.are_fields.ensures

pub returns-else-head-len : goal.returns-else-head-len
returns-else-head-len c =
    let head = c.args.head.now in
    let many = length-take-le head.count (rest_of head.fields) head.enough in
    let fields = length-map c.args.pairs.now (λ (p : Pair). p.0) in
    ne_eqb head.count c.len.result c.if-head-len.false
    ∙ sym (other_lengths (fields_of c.args.pairs.now) (master_of head) (λ same. c.if-head-len.false (omega (arith, same, many, fields, c.len.ensures))))
