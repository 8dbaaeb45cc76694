use Rattle.std.proofs.Common.{refl, ◌∙◌, ◌+◌, ◌≤◌, ◌<◌, ◌++◌, cond, [], sym, subst, ap, arith, length, IsSome}
use Rattle.std.proofs.lemmas.List.{take_rest}
use Rattle.rax_packed.specs.Trees.{entries_at, marks_at, IsTreeAt}
use Rattle.rax_packed.specs.Packed.{value_at}
use Rattle.rax_packed.specs.Paths.{nodes_with}
use Rattle.rax_packed.proofs.Paths.{leaf_first, leaf_nodes, passed_nodes}
use Rattle.rax_packed.proofs.Cuts.{no_value}
use Rattle.rax_packed.proofs.Looks.{tree_live, tree_node, node_read, found_parts, found_missing, found_link, link_below, shorter}
use Rattle.rax_packed.proofs.path.+nodes_below.Goals as goal

pub bytes-requires : goal.bytes-requires
bytes-requires g t c = tree_live _ _ _ _ c.requires.tree

pub way_of-requires : goal.way_of-requires
way_of-requires g t c = tree_node _ _ _ _ c.bytes.result.now c.requires.tree c.bytes.ensures

pub unreachable-requires : goal.unreachable-requires
unreachable-requires g t c = no_value
    (found_parts (g.B.BlockStore.blocks c.args.store.now) c.args.at c.bytes.result.now c.args.rest.now c.requires.tree c.bytes.ensures c.in-Parts.field-0 c.in-Parts.ensures)
    c.requires.stands

pub unreachable-requires-in-Missing : goal.unreachable-requires-in-Missing
unreachable-requires-in-Missing g t c = no_value
    (found_missing (g.B.BlockStore.blocks c.args.store.now) c.args.at c.bytes.result.now c.args.rest.now c.requires.tree c.bytes.ensures c.in-Missing.field-0 c.in-Missing.field-1
    c.in-Missing.ensures) c.requires.stands

pub nodes_below-requires : goal.nodes_below-requires
nodes_below-requires g t c κs within =
    let all = take_rest c.args.rest.now c.in-Link.from in
    let b = g.B.BlockStore.blocks c.args.store.now in
    let less = shorter _ _ c.args.rest.now _ _ t c.decreases c.in-Link.ensures in
    let shrinks = shorter _ _ c.args.rest.now _ _ (length c.args.rest.now) refl c.in-Link.ensures in
    let found = found_link b c.args.at c.bytes.result.now c.args.rest.now c.requires.tree c.bytes.ensures c.in-Link.place c.in-Link.from c.in-Link.to c.in-Link.ensures in (
      subst (λ xs. length xs < t) (sym all) less,
      (
        within,
        (
          subst (λ xs. IsTreeAt (length xs) b c.in-Link.to) (sym all)
              (link_below b c.args.at c.bytes.result.now c.args.rest.now c.requires.tree c.bytes.ensures c.in-Link.place c.in-Link.from c.in-Link.to c.in-Link.ensures).tree,
          (
            subst (λ xs. IsSome (value_at (entries_at (length xs) b c.in-Link.to) xs)) (sym all) (subst (λ o. IsSome o) found c.requires.stands),
            subst (λ xs. length c.pass.new.self + length xs ≤ 16) (sym all) (omega (arith, shrinks, c.pass.ensures.room, c.requires.room)),
          ),
        ),
      ),
    )

pub returns-in-Leaf : goal.returns-in-Leaf
returns-in-Leaf g t c =
    let b = g.B.BlockStore.blocks c.args.store.now in
    let node = node_read b c.args.at c.bytes.result.now c.bytes.ensures ∙ c.in-Leaf.ensures in
    let n = length c.args.rest.now in
    c.push.ensures ∙ sym (
    ap (λ first. cond first c.args.nodes.now [] ++ nodes_with (marks_at n b c.args.at) c.args.rest.now) (leaf_first n b c.args.at c.args.rest.now c.in-Leaf.field-0 node)
    ∙ ap (λ xs. c.args.nodes.now ++ xs) (leaf_nodes n b c.args.at c.args.rest.now c.in-Leaf.field-0 node)
    )

pub returns-in-Link : goal.returns-in-Link
returns-in-Link g t c =
    let all = take_rest c.args.rest.now c.in-Link.from in
    let b = g.B.BlockStore.blocks c.args.store.now in
    passed_nodes b c.args.at c.in-Link.to c.bytes.result.now c.args.rest.now c.in-Link.place c.in-Link.from c.requires.tree c.bytes.ensures c.in-Link.ensures c.args.nodes.now
    c.pass.new.self c.nodes_below.new.nodes
    c.pass.ensures.first c.pass.ensures.other (rw all at c.nodes_below.ensures)
