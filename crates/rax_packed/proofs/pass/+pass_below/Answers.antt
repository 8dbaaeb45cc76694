use Rattle.std.proofs.Common.{◌≡◌, ◌∙◌, ◌+◌, ◌-◌, ◌<◌, ◌≤◌, sym, ap, subst, refl, arith, length, length-append, take, drop, get_or, true, []}
use Rattle.std.proofs.lemmas.List.{length-drop, get_or-drop}
use Rattle.rax_packed.specs.Costs.{going}
use Rattle.rax_packed.specs.Nodes.{node_of, IsNode}
use Rattle.rax_packed.specs.Trees.{IsTreeAt}
use Rattle.rax_packed.specs.Ways.{links_in}
use Rattle.rax_packed.proofs.Looks.{tree_live, tree_node, node_read, link_below, shorter, from_within}
use Rattle.rax_packed.proofs.Passes.{above_few, from_leaf, from_all, from_none, from_missing, from_link, rest_form, none_form, link_form}
use Rattle.rax_packed.proofs.Splits.{key_goes_on}
use Rattle.rax_packed.proofs.Seeks.{own_byte, key_byte, past_within}
use Rattle.rax_packed.proofs.pass.+pass_below.Goals as goal

pub bytes-requires : goal.bytes-requires
bytes-requires g t c = tree_live _ _ _ _ c.requires.tree

pub way_of-requires : goal.way_of-requires
way_of-requires g t c = subst (λ m. IsNode m c.bytes.result.now) (sym c.rest_of.ensures.len) (tree_node _ _ _ _ c.bytes.result.now c.requires.tree c.bytes.ensures)

pub bounds-bytes-shared : goal.bounds-bytes-shared
bounds-bytes-shared g t c =
    let again = rw c.bytes.ensures at c.bytes-in-Parts.ensures in
    let same : c.bytes.result.now ≡ c.bytes-in-Parts.result.now = cc in
    rw (← same) ((own_byte _ c.bytes.result.now c.rest_of.result.now c.in-Parts.shared (tree_node _ _ _ _ c.bytes.result.now c.requires.tree c.bytes.ensures) c.in-Parts.ensures).0)

pub pass_below-requires : goal.pass_below-requires
pass_below-requires g t c κs within =
    let b = g.B.BlockStore.blocks c.args.store.now in
    let part = c.rest_of.result.now in
    let level = c.rest_of.ensures.len in
    let tree : IsTreeAt (length part) b c.args.at = subst (λ m. IsTreeAt m b c.args.at) (sym level) c.requires.tree in
    let less = shorter _ _ part _ _ (length part) refl c.in-Link.ensures in
    let child = link_below b c.args.at c.bytes.result.now part tree c.bytes.ensures c.in-Link.place c.in-Link.from c.in-Link.to c.in-Link.ensures in
    let far : length (drop c.in-Link.from part) ≡ 16 - (c.args.depth + c.in-Link.from) = omega (arith, length-drop c.in-Link.from part) in
    let begins = c.in-Link.ensures.begins in
    let fits = from_within (node_of c.bytes.result.now) c.in-Link.to part c.in-Link.place c.in-Link.from c.in-Link.ensures in
    let few : c.above-in-Link.result ≤ c.args.depth + c.in-Link.from =
    above_few c.in-Link.place c.args.nodes c.above-in-Link.result (c.args.depth + c.in-Link.from) c.above-in-Link.ensures.first c.above-in-Link.ensures.other
    (omega (arith, begins, c.requires.few)) in (
      omega (arith, c.decreases),
      (within, (omega (arith, c.requires.within), (subst (λ m. IsTreeAt m b c.in-Link.to) far child.tree, omega (arith, few)))),
    )

pub overflow_add-place : goal.overflow_add-place
overflow_add-place g t c =
    let b = g.B.BlockStore.blocks c.args.store.now in
    let part = c.rest_of.result.now in
    let level = c.rest_of.ensures.len in
    let tree : IsTreeAt (length part) b c.args.at = subst (λ m. IsTreeAt m b c.args.at) (sym level) c.requires.tree in
    let past = past_within true b c.args.at c.bytes.result.now part [] tree c.bytes.ensures c.in-Link.place c.in-Link.from c.in-Link.to c.in-Link.ensures in
    omega (arith, past.0, past.1)

pub returns-in-Leaf : goal.returns-in-Leaf
returns-in-Leaf g t c =
    let b = g.B.BlockStore.blocks c.args.store.now in
    let part = c.rest_of.result.now in
    let level = c.rest_of.ensures.len in
    let tree : IsTreeAt (length part) b c.args.at = subst (λ m. IsTreeAt m b c.args.at) (sym level) c.requires.tree in
    rest_form b c.args.at c.args.key.now part (take c.args.depth c.args.key.now) c.args.depth (16 - c.args.depth) c.args.nodes c.args.nodes 0 (going c.args.pass.now)
    (going c.pass_rest.new.pass) c.rest_of.ensures.rest level
    (from_leaf b c.args.at c.bytes.result.now part c.args.nodes tree c.bytes.ensures c.in-Leaf.field-0 c.in-Leaf.ensures) c.pass_rest.ensures

pub returns-then-key-depth : goal.returns-then-key-depth
returns-then-key-depth g t c =
    let b = g.B.BlockStore.blocks c.args.store.now in
    let part = c.rest_of.result.now in
    let level = c.rest_of.ensures.len in
    let tree : IsTreeAt (length part) b c.args.at = subst (λ m. IsTreeAt m b c.args.at) (sym level) c.requires.tree in
    let again = rw c.bytes.ensures at c.bytes-in-Parts.ensures in
    let same : c.bytes.result.now ≡ c.bytes-in-Parts.result.now = cc in
    let own : get_or c.bytes-in-Parts.result.now (2 + c.in-Parts.shared) 0 ≡ c.in-Parts.ensures.node_byte = ap (λ xs. get_or xs (2 + c.in-Parts.shared) 0) (sym same)
    ∙ (own_byte _ c.bytes.result.now part c.in-Parts.shared (tree_node _ _ _ _ c.bytes.result.now c.requires.tree c.bytes.ensures) c.in-Parts.ensures).1 in
    let other : get_or c.args.key.now (c.args.depth + c.in-Parts.shared) 0 ≡ c.in-Parts.ensures.other =
    sym (ap (λ p. get_or p c.in-Parts.shared 0) c.rest_of.ensures.rest ∙ get_or-drop c.args.depth c.args.key.now c.in-Parts.shared 0)
    ∙ (key_byte (node_of c.bytes.result.now) part c.in-Parts.shared c.in-Parts.ensures).1 in
    let ahead : c.in-Parts.ensures.other < c.in-Parts.ensures.node_byte = (let less = c.if-key-depth.true in omega (arith, own, other)) in
    rest_form b c.args.at c.args.key.now part (take c.args.depth c.args.key.now) c.args.depth (16 - c.args.depth) c.args.nodes c.args.nodes 0 (going c.args.pass.now)
    (going c.pass_rest-then-key-depth.new.pass) c.rest_of.ensures.rest level
    (from_all b c.args.at c.bytes.result.now part c.args.nodes tree c.bytes.ensures c.in-Parts.shared c.in-Parts.ensures ahead) c.pass_rest-then-key-depth.ensures

pub returns-else-key-depth : goal.returns-else-key-depth
returns-else-key-depth g t c =
    let b = g.B.BlockStore.blocks c.args.store.now in
    let part = c.rest_of.result.now in
    let level = c.rest_of.ensures.len in
    let tree : IsTreeAt (length part) b c.args.at = subst (λ m. IsTreeAt m b c.args.at) (sym level) c.requires.tree in
    let again = rw c.bytes.ensures at c.bytes-in-Parts.ensures in
    let same : c.bytes.result.now ≡ c.bytes-in-Parts.result.now = cc in
    let own : get_or c.bytes-in-Parts.result.now (2 + c.in-Parts.shared) 0 ≡ c.in-Parts.ensures.node_byte = ap (λ xs. get_or xs (2 + c.in-Parts.shared) 0) (sym same)
    ∙ (own_byte _ c.bytes.result.now part c.in-Parts.shared (tree_node _ _ _ _ c.bytes.result.now c.requires.tree c.bytes.ensures) c.in-Parts.ensures).1 in
    let other : get_or c.args.key.now (c.args.depth + c.in-Parts.shared) 0 ≡ c.in-Parts.ensures.other =
    sym (ap (λ p. get_or p c.in-Parts.shared 0) c.rest_of.ensures.rest ∙ get_or-drop c.args.depth c.args.key.now c.in-Parts.shared 0)
    ∙ (key_byte (node_of c.bytes.result.now) part c.in-Parts.shared c.in-Parts.ensures).1 in
    let behind : c.in-Parts.ensures.node_byte ≤ c.in-Parts.ensures.other = (let upto = c.if-key-depth.false in omega (arith, own, other)) in
    none_form b c.args.at c.args.key.now part (take c.args.depth c.args.key.now) c.args.depth (16 - c.args.depth) c.args.nodes (going c.args.pass.now) c.rest_of.ensures.rest level
    (from_none b c.args.at c.bytes.result.now part c.args.nodes tree c.bytes.ensures c.in-Parts.shared c.in-Parts.ensures behind)

pub returns-in-Missing : goal.returns-in-Missing
returns-in-Missing g t c =
    let b = g.B.BlockStore.blocks c.args.store.now in
    let part = c.rest_of.result.now in
    let level = c.rest_of.ensures.len in
    let tree : IsTreeAt (length part) b c.args.at = subst (λ m. IsTreeAt m b c.args.at) (sym level) c.requires.tree in
    rest_form b c.args.at c.args.key.now part (take c.args.depth c.args.key.now) c.args.depth (16 - c.args.depth) c.args.nodes c.above.result c.in-Missing.place (going c.args.pass.now)
    (going c.pass_rest-in-Missing.new.pass) c.rest_of.ensures.rest level
    (from_missing b c.args.at c.bytes.result.now part c.args.nodes tree c.bytes.ensures c.in-Missing.place c.in-Missing.field-1 c.above.result c.in-Missing.ensures c.above.ensures.first
    c.above.ensures.other) c.pass_rest-in-Missing.ensures

pub returns-in-Link : goal.returns-in-Link
returns-in-Link g t c =
    let b = g.B.BlockStore.blocks c.args.store.now in
    let part = c.rest_of.result.now in
    let level = c.rest_of.ensures.len in
    let tree : IsTreeAt (length part) b c.args.at = subst (λ m. IsTreeAt m b c.args.at) (sym level) c.requires.tree in
    let far : 16 - (c.args.depth + c.in-Link.from) ≡ length (drop c.in-Link.from part) = omega (arith, length-drop c.in-Link.from part) in
    link_form b c.args.at c.in-Link.to c.args.key.now part c.args.depth c.in-Link.from (16 - c.args.depth) (16 - (c.args.depth + c.in-Link.from)) c.args.nodes (c.above-in-Link.result + 1)
    (c.in-Link.place + 1) (going c.args.pass.now) (going c.pass_below.new.pass) (going c.pass_rest-in-Link.new.pass)
    c.rest_of.ensures.rest level far
    (from_link b c.args.at c.bytes.result.now part c.args.nodes tree c.bytes.ensures c.in-Link.place c.in-Link.from c.in-Link.to c.in-Link.ensures c.above-in-Link.result
    c.above-in-Link.ensures.first c.above-in-Link.ensures.other)
    c.pass_below.ensures c.pass_rest-in-Link.ensures

pub pass_rest-requires-in-Missing-clause-place : goal.pass_rest-requires-in-Missing-clause-place
pass_rest-requires-in-Missing-clause-place g t c =
    let lacks = c.in-Missing.ensures in
    omega (
      arith,
      ap (λ m. length (links_in m)) (node_read (g.B.BlockStore.blocks c.args.store.now) c.args.at c.bytes.result.now c.bytes.ensures),
      ap (λ m. length (links_in m)) lacks.node_is,
      length-append lacks.before lacks.after,
      lacks.many,
    )

pub pass_rest-requires-in-Missing-clause-few : goal.pass_rest-requires-in-Missing-clause-few
pass_rest-requires-in-Missing-clause-few g t c =
    above_few c.in-Missing.place c.args.nodes c.above.result (c.args.depth + 1) c.above.ensures.first c.above.ensures.other c.requires.few

pub pass_rest-requires-in-Link-clause-place : goal.pass_rest-requires-in-Link-clause-place
pass_rest-requires-in-Link-clause-place g t c =
    let b = g.B.BlockStore.blocks c.args.store.now in
    let part = c.rest_of.result.now in
    let tree : IsTreeAt (length part) b c.args.at = subst (λ m. IsTreeAt m b c.args.at) (sym c.rest_of.ensures.len) c.requires.tree in
    let past = past_within true b c.args.at c.bytes.result.now part [] tree c.bytes.ensures c.in-Link.place c.in-Link.from c.in-Link.to c.in-Link.ensures in
    omega (arith, past.0, ap (λ m. length (links_in m)) (node_read b c.args.at c.bytes.result.now c.bytes.ensures))

pub overflow_add-above : goal.overflow_add-above
overflow_add-above g t c =
    let few = above_few c.in-Link.place c.args.nodes c.above-in-Link.result (c.args.depth + 1) c.above-in-Link.ensures.first c.above-in-Link.ensures.other c.requires.few in
    omega (arith, few, c.requires.within)

pub overflow_add-depth-in-Link : goal.overflow_add-depth-in-Link
overflow_add-depth-in-Link g t c =
    let part = c.rest_of.result.now in
    omega (arith, from_within (node_of c.bytes.result.now) c.in-Link.to part c.in-Link.place c.in-Link.from c.in-Link.ensures, c.rest_of.ensures.len, c.requires.within)

pub bounds-key-depth : goal.bounds-key-depth
bounds-key-depth g t c = omega (arith, key_goes_on c.in-Parts.ensures, c.rest_of.ensures.len)

pub overflow_add-depth : goal.overflow_add-depth
overflow_add-depth g t c = omega (arith, key_goes_on c.in-Parts.ensures, c.rest_of.ensures.len)

pub overflow_add-shared : goal.overflow_add-shared
overflow_add-shared g t c = omega (arith, key_goes_on c.in-Parts.ensures, c.rest_of.ensures.len)
