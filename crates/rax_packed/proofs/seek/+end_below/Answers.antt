use Rattle.std.proofs.Common.{◌∙◌, ◌-◌, ◌++◌, sym, ap, refl, arith, length, take, Some}
use Rattle.std.specs.Option.{option_map}
use Rattle.rax_packed.specs.Nodes.{node_of}
use Rattle.rax_packed.specs.Trees.{node_at, entries, entries_in}
use Rattle.rax_packed.specs.Packed.{end_of}
use Rattle.rax_packed.specs.Ways.{links_in, prefix_in}
use Rattle.rax_packed.specs.Turns.{IsNearEnd}
use Rattle.rax_packed.proofs.Spellings.{as_leaf}
use Rattle.rax_packed.proofs.Choices.{parts_within}
use Rattle.rax_packed.proofs.Looks.{tree_live, tree_node, node_read}
use Rattle.rax_packed.proofs.Turnings.{leaf_end, inner_bytes, read_at, aside_all, near_within, near_some, turn_named, turn_deeper, turn_within, turn_found, whole_entries}
use Rattle.rax_packed.proofs.seek.+end_below.Goals as goal

pub bytes-bytes-requires : goal.bytes-bytes-requires
bytes-bytes-requires g t c = tree_live _ _ _ _ c.requires.tree

pub bounds-bytes-0 : goal.bounds-bytes-0
bounds-bytes-0 g t c = let room = parts_within _ _ (tree_node _ _ _ _ c.bytes-bytes.result.now c.requires.tree c.bytes-bytes.ensures) in omega arith

pub parts-requires : goal.parts-requires
parts-requires g t c = parts_within _ _ (tree_node _ _ _ _ c.bytes-bytes.result.now c.requires.tree c.bytes-bytes.ensures)

pub ended-requires : goal.ended-requires
ended-requires g t c =
    let leaf = as_leaf _ _ (tree_node _ _ _ _ c.bytes-bytes.result.now c.requires.tree c.bytes-bytes.ensures) c.if-bytes-eq0.true in
    let whole = leaf.whole in
    omega (arith, ap length c.parts.ensures.prefix, c.requires.within)

pub returns-then-bytes-eq0 : goal.returns-then-bytes-eq0
returns-then-bytes-eq0 g t c =
    let b = g.B.BlockStore.blocks c.args.store.now in
    let leaf = as_leaf _ _ (tree_node _ _ _ _ c.bytes-bytes.result.now c.requires.tree c.bytes-bytes.ensures) c.if-bytes-eq0.true in
    let end = leaf_end c.args.up (16 - c.args.depth) b c.args.at _ _ (node_read b c.args.at c.bytes-bytes.result.now c.bytes-bytes.ensures ∙ leaf.node_is) in
    ap Some (c.ended.ensures ∙ ap (λ p. take c.args.depth c.args.path.now ++ p) c.parts.ensures.prefix) ∙ sym (ap (option_map (λ e. take c.args.depth c.args.path.now ++ e.key)) end)

pub read_sections-requires : goal.read_sections-requires
read_sections-requires g t c = inner_bytes _ _ (tree_node _ _ _ _ c.bytes-bytes.result.now c.requires.tree c.bytes-bytes.ensures) (omega arith) c.if-bytes-eq0.false

pub next_turn-requires : goal.next_turn-requires
next_turn-requires g t c =
    let b = g.B.BlockStore.blocks c.args.store.now in
    let told = inner_bytes _ _ (tree_node _ _ _ _ c.bytes-bytes.result.now c.requires.tree c.bytes-bytes.ensures) (omega arith) c.if-bytes-eq0.false in
    let r = read_at (16 - c.args.depth) b c.args.at c.bytes-bytes.result.now c.requires.tree c.bytes-bytes.ensures told in
    let short = r.node.inner.short in
    record {
      inner = told;
      within = omega (arith, ap (λ m. length (prefix_in m)) r.is, c.requires.within);
      place =
          near_within c.args.up _ _ (rw c.read_sections.ensures.count at c.near_end-place.ensures);
    }

pub unreachable-requires : goal.unreachable-requires
unreachable-requires g t c =
    let b = g.B.BlockStore.blocks c.args.store.now in
    let told = inner_bytes _ _ (tree_node _ _ _ _ c.bytes-bytes.result.now c.requires.tree c.bytes-bytes.ensures) (omega arith) c.if-bytes-eq0.false in
    let r = read_at (16 - c.args.depth) b c.args.at c.bytes-bytes.result.now c.requires.tree c.bytes-bytes.ensures told in
    let some = r.node.inner.some in
    near_some c.args.up (links_in (node_of c.bytes-bytes.result.now)) c.near_end-place.result (omega (arith, ap (λ m. length (links_in m)) r.is))
    (rw c.read_sections.ensures.count at c.near_end-place.ensures) c.in-None.ensures.none

pub end_below-requires : goal.end_below-requires
end_below-requires g t c κs within =
    let b = g.B.BlockStore.blocks c.args.store.now in
    let told = inner_bytes _ _ (tree_node _ _ _ _ c.bytes-bytes.result.now c.requires.tree c.bytes-bytes.ensures) (omega arith) c.if-bytes-eq0.false in
    let r = read_at (16 - c.args.depth) b c.args.at c.bytes-bytes.result.now c.requires.tree c.bytes-bytes.ensures told in
    let deeper = turn_deeper c.args.up (16 - c.args.depth) c.args.depth c.near_end-place.result b c.args.at c.bytes-bytes.result.now c.args.path.now c.in-Some.turn r c.in-Some.ensures.some refl in
    let most = turn_within c.args.up (16 - c.args.depth) c.args.depth c.near_end-place.result b c.args.at c.bytes-bytes.result.now c.args.path.now c.in-Some.turn r c.in-Some.ensures.some refl in (
      omega (arith, c.decreases),
      (
        within,
        (
          most,
          (turn_named c.args.up (16 - c.args.depth) c.args.depth c.near_end-place.result b c.args.at c.bytes-bytes.result.now c.args.path.now c.in-Some.turn r c.in-Some.ensures.some
              refl).tree,
        ),
      ),
    )

pub returns : goal.returns
returns g t c =
    let b = g.B.BlockStore.blocks c.args.store.now in
    let told = inner_bytes _ _ (tree_node _ _ _ _ c.bytes-bytes.result.now c.requires.tree c.bytes-bytes.ensures) (omega arith) c.if-bytes-eq0.false in
    let r = read_at (16 - c.args.depth) b c.args.at c.bytes-bytes.result.now c.requires.tree c.bytes-bytes.ensures told in
    let near : IsNearEnd c.args.up (length (links_in (node_at b c.args.at))) c.near_end-place.result =
    rw (c.read_sections.ensures.count, ap (λ m. length (links_in m)) (sym r.node_is)) at c.near_end-place.ensures in
    turn_found c.args.up (16 - c.args.depth) c.args.depth c.near_end-place.result b c.args.at c.bytes-bytes.result.now c.args.path.now c.in-Some.turn r c.in-Some.ensures.some refl
    c.end_below.result c.end_below.ensures
    ∙ ap (λ m. option_map (λ e. take c.args.depth c.args.path.now ++ e.key) (end_of c.args.up (entries_in (entries (16 - c.args.depth) b) m)))
    (aside_all c.args.up c.near_end-place.result (node_at b c.args.at) near)
    ∙ whole_entries c.args.up (16 - c.args.depth) b c.args.at (take c.args.depth c.args.path.now)
