use Rattle.std.proofs.Common.{◌+◌, ◌∷◌, ◌++◌, [], length, sym, subst, ◌∙◌, arith, length-append}
use Rattle.listpack.specs.View.{list_of}
use Rattle.stream_node.specs.Entry.{IsStart, number}
use Rattle.stream_node.specs.Rest.{rest_of}
use Rattle.stream_node.proofs.Endings.{end_inside, last_are}
use Rattle.stream_node.proofs.Lists.{Texts}
use Rattle.stream_node.proofs.Same.{one_start}
use Rattle.stream_node.proofs.Sizes.{few_texts}
use Rattle.stream_node.proofs.ending.id_at_end.Goals as goal

pub count_at_end-count-requires : goal.count_at_end-count-requires
count_at_end-count-requires c = let ends = c.requires.1 in (ends.front, ends.middle, ends.whole)

pub overflow_add-count : goal.overflow_add-count
overflow_add-count c =
    let ends = c.requires.1 in
    let inside = end_inside (list_of c.args.pack.now) ends.front ends.middle ends.whole in
    let few = few_texts c.args.pack.now.bytes.now c.args.pack.now.packed c.args.pack.now.small in
    let many = c.count_at_end-count.ensures ends.front ends.middle ends.whole in
    record { fits = omega (arith, inside, few, many) }

pub last-requires : goal.last-requires
last-requires c =
    let ends = c.requires.1 in
    let inside = end_inside (list_of c.args.pack.now) ends.front ends.middle ends.whole in
    let many = c.count_at_end-count.ensures ends.front ends.middle ends.whole in
    omega (arith, inside, many)

pub returns : goal.returns
returns c = λ id ends.
    let list = list_of c.args.pack.now in
    let own : Texts = ends.middle ++ number (length ends.middle) ∷ [] in
    let many = c.count_at_end-count.ensures ends.front ends.middle ends.whole in
    let seen = c.last.ensures ∙ last_are list ends.front own (c.count_at_end-count.result + 1) ends.whole (omega (arith, many, length-append ends.middle (number (length ends.middle) ∷ []))) in
    let there = subst (λ (xs : Texts). IsStart c.args.key xs c.in-Some.start.deleted c.in-Some.start.same c.in-Some.start.id (rest_of c.in-Some.field-0-1)) seen c.in-Some.ensures.some in
    (one_start c.args.key own _ _ _ _ _ _ _ _ there ends.start).id

pub unreachable-requires : goal.unreachable-requires
unreachable-requires c =
    let ends = c.requires.1 in
    let list = list_of c.args.pack.now in
    let own : Texts = ends.middle ++ number (length ends.middle) ∷ [] in
    let many = c.count_at_end-count.ensures ends.front ends.middle ends.whole in
    let seen = c.last.ensures ∙ last_are list ends.front own (c.count_at_end-count.result + 1) ends.whole (omega (arith, many, length-append ends.middle (number (length ends.middle) ∷ []))) in
    c.in-None.ensures.none ends.deleted ends.same c.requires.0 ends.behind (subst (λ (xs : Texts). IsStart c.args.key xs ends.deleted ends.same c.requires.0 ends.behind) (sym seen) ends.start)
