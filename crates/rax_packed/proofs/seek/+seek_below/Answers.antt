use Rattle.std.proofs.Common.{◌≡◌, ◌∙◌, ◌+◌, ◌-◌, ◌++◌, sym, ap, subst, refl, arith, length, take, drop, get_or, unwrap_or, Some, None, []}
use Rattle.std.proofs.lemmas.List.{length-drop, take-append-drop, get_or-drop}
use Rattle.std.specs.Option.{option_map}
use Rattle.rax_packed.specs.Nodes.{node_of, IsNode}
use Rattle.rax_packed.specs.Trees.{IsTreeAt}
use Rattle.rax_packed.specs.Ways.{IsByteAhead}
use Rattle.rax_packed.proofs.Looks.{tree_live, tree_node, link_below, shorter, from_within}
use Rattle.rax_packed.proofs.Seeks.{own_byte, key_byte, sought_leaf, sought_all, sought_none, sought_beside, sought_below, sought_past, past_within, lead_bytes, lack_bytes, behind_within}
use Rattle.rax_packed.proofs.Seeks.{child_form, parent_form, end_form, side_form, told_ahead}
use Rattle.rax_packed.proofs.seek.+seek_below.Goals as goal

pub bytes-requires : goal.bytes-requires
bytes-requires g t c = tree_live _ _ _ _ c.requires.tree

pub way_of-requires : goal.way_of-requires
way_of-requires g t c = subst (λ m. IsNode m c.bytes.result.now) (sym c.rest_of.ensures.len) (tree_node _ _ _ _ c.bytes.result.now c.requires.tree c.bytes.ensures)

pub bounds-bytes-shared : goal.bounds-bytes-shared
bounds-bytes-shared g t c =
    let again = rw c.bytes.ensures at c.bytes-in-Parts.ensures in
    let same : c.bytes.result.now ≡ c.bytes-in-Parts.result.now = cc in
    rw (← same) ((own_byte _ c.bytes.result.now c.rest_of.result.now c.in-Parts.shared (tree_node _ _ _ _ c.bytes.result.now c.requires.tree c.bytes.ensures) c.in-Parts.ensures).0)

pub beyond-requires : goal.beyond-requires
beyond-requires g t c =
    let told = lack_bytes _ c.bytes.result.now c.rest_of.result.now c.in-Missing.place c.in-Missing.field-1 (tree_node _ _ _ _ c.bytes.result.now c.requires.tree c.bytes.ensures)
    (omega arith) c.in-Missing.ensures in
    let read = ap (λ o. unwrap_or o []) c.bytes.ensures in
    record { within = c.requires.within; tree = c.requires.tree; inner = rw read (told.0); place = rw read (told.1) }

pub seek_below-requires : goal.seek_below-requires
seek_below-requires g t c κs within =
    let b = g.B.BlockStore.blocks c.args.store.now in
    let part = c.rest_of.result.now in
    let level = c.rest_of.ensures.len in
    let tree : IsTreeAt (length part) b c.args.at = subst (λ m. IsTreeAt m b c.args.at) (sym level) c.requires.tree in
    let less = shorter _ _ part _ _ (length part) refl c.in-Link.ensures in
    let child = link_below b c.args.at c.bytes.result.now part tree c.bytes.ensures c.in-Link.place c.in-Link.from c.in-Link.to c.in-Link.ensures in
    let far : length (drop c.in-Link.from part) ≡ 16 - (c.args.depth + c.in-Link.from) = omega (arith, length-drop c.in-Link.from part) in
    let begins = c.in-Link.ensures.begins in
    let fits = from_within (node_of c.bytes.result.now) c.in-Link.to part c.in-Link.place c.in-Link.from c.in-Link.ensures in (
      omega (arith, c.decreases),
      (within, (omega (arith, c.requires.within), subst (λ m. IsTreeAt m b c.in-Link.to) far child.tree)),
    )

pub behind-requires : goal.behind-requires
behind-requires g t c =
    let b = g.B.BlockStore.blocks c.args.store.now in
    let part = c.rest_of.result.now in
    let level = c.rest_of.ensures.len in
    let tree : IsTreeAt (length part) b c.args.at = subst (λ m. IsTreeAt m b c.args.at) (sym level) c.requires.tree in
    let past = past_within c.args.up b c.args.at c.bytes.result.now part [] tree c.bytes.ensures c.in-Link.place c.in-Link.from c.in-Link.to c.in-Link.ensures in
    omega (arith, past.0, past.1)

pub beyond-requires-in-None : goal.beyond-requires-in-None
beyond-requires-in-None g t c =
    let b = g.B.BlockStore.blocks c.args.store.now in
    let part = c.rest_of.result.now in
    let level = c.rest_of.ensures.len in
    let tree : IsTreeAt (length part) b c.args.at = subst (λ m. IsTreeAt m b c.args.at) (sym level) c.requires.tree in
    let told = lead_bytes _ c.bytes.result.now part c.in-Link.place c.in-Link.from c.in-Link.to (tree_node _ _ _ _ c.bytes.result.now c.requires.tree c.bytes.ensures) (omega arith)
    c.in-Link.ensures in
    let past = past_within c.args.up b c.args.at c.bytes.result.now part [] tree c.bytes.ensures c.in-Link.place c.in-Link.from c.in-Link.to c.in-Link.ensures in
    let read = ap (λ o. unwrap_or o []) c.bytes.ensures in
    record { within = c.requires.within; tree = c.requires.tree; inner = rw read told; place = rw read (behind_within c.args.up c.in-Link.place c.behind.result _ c.behind.ensures past.0) }

pub returns-in-Leaf : goal.returns-in-Leaf
returns-in-Leaf g t c =
    let b = g.B.BlockStore.blocks c.args.store.now in
    let part = c.rest_of.result.now in
    let level = c.rest_of.ensures.len in
    let tree : IsTreeAt (length part) b c.args.at = subst (λ m. IsTreeAt m b c.args.at) (sym level) c.requires.tree in
    let whole : Some (take c.args.depth c.args.key.now ++ part) ≡ Some c.args.key.now =
    ap Some (ap (λ p. take c.args.depth c.args.key.now ++ p) c.rest_of.ensures.rest ∙ take-append-drop c.args.depth c.args.key.now) in
    parent_form c.args.up b c.args.at c.args.key.now part (take c.args.depth c.args.key.now) c.args.depth (16 - c.args.depth) (Some c.args.key.now) c.rest_of.ensures.rest level
    (sym whole ∙ sought_leaf c.args.up b c.args.at c.bytes.result.now part (take c.args.depth c.args.key.now) tree c.bytes.ensures c.in-Leaf.field-0 c.in-Leaf.ensures)

pub returns-then-is_ahead : goal.returns-then-is_ahead
returns-then-is_ahead g t c =
    let b = g.B.BlockStore.blocks c.args.store.now in
    let part = c.rest_of.result.now in
    let level = c.rest_of.ensures.len in
    let tree : IsTreeAt (length part) b c.args.at = subst (λ m. IsTreeAt m b c.args.at) (sym level) c.requires.tree in
    let front = take c.args.depth c.args.key.now in
    let again = rw c.bytes.ensures at c.bytes-in-Parts.ensures in
    let same : c.bytes.result.now ≡ c.bytes-in-Parts.result.now = cc in
    let own : get_or c.bytes-in-Parts.result.now (2 + c.in-Parts.shared) 0 ≡ c.in-Parts.ensures.node_byte = ap (λ xs. get_or xs (2 + c.in-Parts.shared) 0) (sym same)
    ∙ (own_byte _ c.bytes.result.now part c.in-Parts.shared (tree_node _ _ _ _ c.bytes.result.now c.requires.tree c.bytes.ensures) c.in-Parts.ensures).1 in
    let other : get_or c.args.key.now (c.args.depth + c.in-Parts.shared) 0 ≡ c.in-Parts.ensures.other =
    sym (ap (λ p. get_or p c.in-Parts.shared 0) c.rest_of.ensures.rest ∙ get_or-drop c.args.depth c.args.key.now c.in-Parts.shared 0)
    ∙ (key_byte (node_of c.bytes.result.now) part c.in-Parts.shared c.in-Parts.ensures).1 in
    let ahead : IsByteAhead c.args.up c.in-Parts.ensures.other c.in-Parts.ensures.node_byte =
    told_ahead c.args.up _ _ c.in-Parts.ensures.other c.in-Parts.ensures.node_byte other own (c.if-is_ahead.ensures.0 refl) in
    parent_form c.args.up b c.args.at c.args.key.now part front c.args.depth (16 - c.args.depth) (Some c.end_below.result) c.rest_of.ensures.rest level
    (end_form c.args.up b c.args.at part front (16 - c.args.depth) (Some c.end_below.result) level
    (sought_all c.args.up b c.args.at c.bytes.result.now part front tree c.bytes.ensures c.in-Parts.shared c.in-Parts.ensures ahead) c.end_below.ensures)

pub returns-else-is_ahead : goal.returns-else-is_ahead
returns-else-is_ahead g t c =
    let b = g.B.BlockStore.blocks c.args.store.now in
    let part = c.rest_of.result.now in
    let level = c.rest_of.ensures.len in
    let tree : IsTreeAt (length part) b c.args.at = subst (λ m. IsTreeAt m b c.args.at) (sym level) c.requires.tree in
    let front = take c.args.depth c.args.key.now in
    let again = rw c.bytes.ensures at c.bytes-in-Parts.ensures in
    let same : c.bytes.result.now ≡ c.bytes-in-Parts.result.now = cc in
    let own : get_or c.bytes-in-Parts.result.now (2 + c.in-Parts.shared) 0 ≡ c.in-Parts.ensures.node_byte = ap (λ xs. get_or xs (2 + c.in-Parts.shared) 0) (sym same)
    ∙ (own_byte _ c.bytes.result.now part c.in-Parts.shared (tree_node _ _ _ _ c.bytes.result.now c.requires.tree c.bytes.ensures) c.in-Parts.ensures).1 in
    let other : get_or c.args.key.now (c.args.depth + c.in-Parts.shared) 0 ≡ c.in-Parts.ensures.other =
    sym (ap (λ p. get_or p c.in-Parts.shared 0) c.rest_of.ensures.rest ∙ get_or-drop c.args.depth c.args.key.now c.in-Parts.shared 0)
    ∙ (key_byte (node_of c.bytes.result.now) part c.in-Parts.shared c.in-Parts.ensures).1 in
    let not_ahead : IsByteAhead c.args.up c.in-Parts.ensures.other c.in-Parts.ensures.node_byte → ⊥ = λ h.
    (let yes = c.if-is_ahead.ensures.1 (told_ahead c.args.up _ _ _ _ (sym other) (sym own) h) in cc) in
    parent_form c.args.up b c.args.at c.args.key.now part front c.args.depth (16 - c.args.depth) None c.rest_of.ensures.rest level
    (sym (ap (option_map (λ e. front ++ e.key)) (sought_none c.args.up b c.args.at c.bytes.result.now part front tree c.bytes.ensures c.in-Parts.shared c.in-Parts.ensures not_ahead)))

pub returns-in-Missing : goal.returns-in-Missing
returns-in-Missing g t c =
    let b = g.B.BlockStore.blocks c.args.store.now in
    let part = c.rest_of.result.now in
    let level = c.rest_of.ensures.len in
    let tree : IsTreeAt (length part) b c.args.at = subst (λ m. IsTreeAt m b c.args.at) (sym level) c.requires.tree in
    let front = take c.args.depth c.args.key.now in
    parent_form c.args.up b c.args.at c.args.key.now part front c.args.depth (16 - c.args.depth) c.beyond.result c.rest_of.ensures.rest level
    (side_form c.args.up b c.args.at part front (16 - c.args.depth) c.in-Missing.place c.beyond.result level
    (sought_beside c.args.up b c.args.at c.bytes.result.now part front tree c.bytes.ensures c.in-Missing.place c.in-Missing.field-1 c.in-Missing.ensures) c.beyond.ensures)

pub returns-in-Some : goal.returns-in-Some
returns-in-Some g t c =
    let b = g.B.BlockStore.blocks c.args.store.now in
    let part = c.rest_of.result.now in
    let level = c.rest_of.ensures.len in
    let tree : IsTreeAt (length part) b c.args.at = subst (λ m. IsTreeAt m b c.args.at) (sym level) c.requires.tree in
    let front = take c.args.depth c.args.key.now in
    let far : 16 - (c.args.depth + c.in-Link.from) ≡ length (drop c.in-Link.from part) = omega (arith, length-drop c.in-Link.from part) in
    let found = child_form c.args.up b c.in-Link.to c.args.key.now part c.args.depth c.in-Link.from (16 - (c.args.depth + c.in-Link.from)) (Some c.in-Some.found) c.rest_of.ensures.rest far
    (sym c.in-Some.is ∙ c.seek_below.ensures) in
    parent_form c.args.up b c.args.at c.args.key.now part front c.args.depth (16 - c.args.depth) (Some c.in-Some.found) c.rest_of.ensures.rest level
    (sought_below c.args.up b c.args.at c.bytes.result.now part front tree c.bytes.ensures c.in-Link.place c.in-Link.from c.in-Link.to c.in-Link.ensures c.in-Some.found found)

pub returns-in-None : goal.returns-in-None
returns-in-None g t c =
    let b = g.B.BlockStore.blocks c.args.store.now in
    let part = c.rest_of.result.now in
    let level = c.rest_of.ensures.len in
    let tree : IsTreeAt (length part) b c.args.at = subst (λ m. IsTreeAt m b c.args.at) (sym level) c.requires.tree in
    let front = take c.args.depth c.args.key.now in
    let far : 16 - (c.args.depth + c.in-Link.from) ≡ length (drop c.in-Link.from part) = omega (arith, length-drop c.in-Link.from part) in
    let missed = child_form c.args.up b c.in-Link.to c.args.key.now part c.args.depth c.in-Link.from (16 - (c.args.depth + c.in-Link.from)) None c.rest_of.ensures.rest far
    (sym c.in-None.is ∙ c.seek_below.ensures) in
    parent_form c.args.up b c.args.at c.args.key.now part front c.args.depth (16 - c.args.depth) c.beyond-in-None.result c.rest_of.ensures.rest level
    (side_form c.args.up b c.args.at part front (16 - c.args.depth) c.behind.result c.beyond-in-None.result level
    (sought_past c.args.up b c.args.at c.bytes.result.now part front tree c.bytes.ensures c.in-Link.place c.in-Link.from c.in-Link.to c.in-Link.ensures c.behind.result c.behind.ensures
    missed) c.beyond-in-None.ensures)
