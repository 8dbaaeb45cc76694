use Rattle.std.proofs.Common.{sym, ap, ◌∙◌, arith}
use Rattle.stream_node.specs.Entry.{Pair}
use Rattle.stream_node.specs.Rest.{rest_of}
use Rattle.stream_node.proofs.PairsAt.{at_true, at_false}
use Rattle.stream_node.proofs.Sizes.{few_left}
use Rattle.stream_node.proofs.body.Body.value.Goals as goal

pub element-requires : goal.element-requires
element-requires c =
    let b = c.args.self.now in
    (at_true b.same b.len (rest_of b.fields) (rest_of b.values) c.args.index c.if-self.true b.all_fields b.all_values c.requires).2

pub overflow_mul-index : goal.overflow_mul-index
overflow_mul-index c =
    let b = c.args.self.now in
    let at = at_false b.same b.len (rest_of b.fields) (rest_of b.values) c.args.index c.if-self.false b.all_fields b.all_values c.requires in
    omega (arith, at.1, few_left b.fields)

pub overflow_add-index : goal.overflow_add-index
overflow_add-index c =
    let b = c.args.self.now in
    let at = at_false b.same b.len (rest_of b.fields) (rest_of b.values) c.args.index c.if-self.false b.all_fields b.all_values c.requires in
    omega (arith, at.1, few_left b.fields)

pub element-requires-else-self : goal.element-requires-else-self
element-requires-else-self c =
    let b = c.args.self.now in
    let at = at_false b.same b.len (rest_of b.fields) (rest_of b.values) c.args.index c.if-self.false b.all_fields b.all_values c.requires in
    omega (arith, at.1)

pub returns-then-self : goal.returns-then-self
returns-then-self c =
    let b = c.args.self.now in
    let at = at_true b.same b.len (rest_of b.fields) (rest_of b.values) c.args.index c.if-self.true b.all_fields b.all_values c.requires in
    c.element.ensures ∙ ap (λ (p : Pair). p.1) (sym at.0)

pub returns-else-self : goal.returns-else-self
returns-else-self c =
    let b = c.args.self.now in
    let at = at_false b.same b.len (rest_of b.fields) (rest_of b.values) c.args.index c.if-self.false b.all_fields b.all_values c.requires in
    c.element-else-self.ensures ∙ ap (λ (p : Pair). p.1) (sym at.0)
