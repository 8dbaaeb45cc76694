use Rattle.std.proofs.Common.{length, ◌∙◌, arith}
use Rattle.listpack.specs.View.{list_of}
use Rattle.stream_node.proofs.Endings.{end_inside, last_is, first_same}
use Rattle.stream_node.proofs.Same.{same_number}
use Rattle.stream_node.proofs.Sizes.{few_texts}
use Rattle.stream_node.proofs.ending.count_at_end.Goals as goal

pub last-requires : goal.last-requires
last-requires c = let inside = end_inside (list_of c.args.pack.now) c.requires.0 c.requires.1 c.requires.2 in omega (arith, inside)

pub returns : goal.returns
returns c = λ front middle is.
    let list = list_of c.args.pack.now in
    let inside = end_inside list front middle is in
    let few = few_texts c.args.pack.now.bytes.now c.args.pack.now.packed c.args.pack.now.small in
    same_number c.in-Some.count (length middle) c.in-Some.ensures.small (omega (arith, inside, few))
    (first_same _ _ _ _ _ c.in-Some.ensures.some (c.last.ensures ∙ last_is list front middle is))

pub unreachable-requires : goal.unreachable-requires
unreachable-requires c =
    let list = list_of c.args.pack.now in
    let inside = end_inside list c.requires.0 c.requires.1 c.requires.2 in
    let few = few_texts c.args.pack.now.bytes.now c.args.pack.now.packed c.args.pack.now.small in
    c.in-None.ensures.none (length c.requires.1) _ (omega (arith, inside, few)) (c.last.ensures ∙ last_is list c.requires.0 c.requires.1 c.requires.2)
