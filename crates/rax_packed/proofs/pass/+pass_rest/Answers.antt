use Rattle.std.proofs.Common.{◌≡◌, ◌∙◌, ◌+◌, ◌-◌, true, sym, ap, refl, arith, length, map, take, drop, None}
use Rattle.std.specs.Prelude.{slice_get}
use Rattle.rax_packed.specs.Costs.{cost_under, costs, costs_below, going}
use Rattle.rax_packed.specs.Trees.{node_at}
use Rattle.rax_packed.specs.Ways.{links_in, prefix_in}
use Rattle.rax_packed.proofs.Choices.{parts_within}
use Rattle.rax_packed.proofs.Looks.{tree_live, tree_node, node_read}
use Rattle.rax_packed.proofs.Passes.{rest_ended, pass_ended, pass_leaf, pass_past, pass_turn, turn_inside}
use Rattle.rax_packed.proofs.Spellings.{as_leaf}
use Rattle.rax_packed.proofs.Turnings.{inner_bytes, read_at, turn_named, turn_deeper, turn_within}
use Rattle.rax_packed.proofs.pass.+pass_rest.Goals as goal

pub bytes-bytes-requires : goal.bytes-bytes-requires
bytes-bytes-requires g t c = tree_live _ _ _ _ c.requires.tree

pub bounds-bytes-0 : goal.bounds-bytes-0
bounds-bytes-0 g t c = let room = parts_within _ _ (tree_node _ _ _ _ c.bytes-bytes.result.now c.requires.tree c.bytes-bytes.ensures) in omega arith

pub parts-requires : goal.parts-requires
parts-requires g t c = parts_within _ _ (tree_node _ _ _ _ c.bytes-bytes.result.now c.requires.tree c.bytes-bytes.ensures)

pub count-requires-clause-whole : goal.count-requires-clause-whole
count-requires-clause-whole g t c =
    let leaf = as_leaf _ _ (tree_node _ _ _ _ c.bytes-bytes.result.now c.requires.tree c.bytes-bytes.ensures) c.if-bytes-eq0.true in
    let whole = leaf.whole in
    omega (arith, ap length c.parts.ensures.prefix, c.requires.within)

pub returns-then-bytes-eq0 : goal.returns-then-bytes-eq0
returns-then-bytes-eq0 g t c =
    let b = g.B.BlockStore.blocks c.args.store.now in
    let leaf = as_leaf _ _ (tree_node _ _ _ _ c.bytes-bytes.result.now c.requires.tree c.bytes-bytes.ensures) c.if-bytes-eq0.true in
    pass_leaf (16 - c.args.depth) b c.args.at _ c.parts.result.0.now (take c.args.depth c.args.path.now) _ c.args.nodes c.args.place (going c.args.pass.now) (going c.count.new.self)
    (node_read b c.args.at c.bytes-bytes.result.now c.bytes-bytes.ensures ∙ leaf.node_is) c.parts.ensures.prefix c.count.ensures

pub next_turn-requires-clause-inner : goal.next_turn-requires-clause-inner
next_turn-requires-clause-inner g t c = inner_bytes _ _ (tree_node _ _ _ _ c.bytes-bytes.result.now c.requires.tree c.bytes-bytes.ensures) (omega arith) c.if-bytes-eq0.false

pub next_turn-requires-clause-within : goal.next_turn-requires-clause-within
next_turn-requires-clause-within g t c =
    let b = g.B.BlockStore.blocks c.args.store.now in
    let told = inner_bytes _ _ (tree_node _ _ _ _ c.bytes-bytes.result.now c.requires.tree c.bytes-bytes.ensures) (omega arith) c.if-bytes-eq0.false in
    let r = read_at (16 - c.args.depth) b c.args.at c.bytes-bytes.result.now c.requires.tree c.bytes-bytes.ensures told in
    let short = r.node.inner.short in
    omega (arith, ap (λ m. length (prefix_in m)) r.is, c.requires.within)

pub pass_rest-requires : goal.pass_rest-requires
pass_rest-requires g t c κs within =
    let b = g.B.BlockStore.blocks c.args.store.now in
    let told = inner_bytes _ _ (tree_node _ _ _ _ c.bytes-bytes.result.now c.requires.tree c.bytes-bytes.ensures) (omega arith) c.if-bytes-eq0.false in
    let r = read_at (16 - c.args.depth) b c.args.at c.bytes-bytes.result.now c.requires.tree c.bytes-bytes.ensures told in
    let deeper = turn_deeper true (16 - c.args.depth) c.args.depth c.loop-turn.next b c.args.at c.bytes-bytes.result.now c.args.path.now c.in-Some.turn r c.in-Some.ensures.some refl in
    let most = turn_within true (16 - c.args.depth) c.args.depth c.loop-turn.next b c.args.at c.bytes-bytes.result.now c.args.path.now c.in-Some.turn r c.in-Some.ensures.some refl in (
      omega (arith, c.decreases),
      (
        within,
        (
          most,
          (
            (turn_named true (16 - c.args.depth) c.args.depth c.loop-turn.next b c.args.at c.bytes-bytes.result.now c.args.path.now c.in-Some.turn r c.in-Some.ensures.some refl).tree,
            (omega arith, omega (arith, c.loop-turn.invariant.few)),
          ),
        ),
      ),
    )

pub returns-then-is_some : goal.returns-then-is_some
returns-then-is_some g t c =
    let b = g.B.BlockStore.blocks c.args.store.now in
    let n = 16 - c.args.depth in
    let front = take c.args.depth c.args.path.now in
    let told = inner_bytes _ _ (tree_node _ _ _ _ c.bytes-bytes.result.now c.requires.tree c.bytes-bytes.ensures) (omega arith) c.if-bytes-eq0.false in
    let r = read_at n b c.args.at c.bytes-bytes.result.now c.requires.tree c.bytes-bytes.ensures told in
    let more = map (cost_under front) (costs_below (costs n b) 1 (prefix_in (node_at b c.args.at)) (drop (c.loop-turn.next + 1) (links_in (node_at b c.args.at)))) in
    rest_ended n b c.args.at front r.prefix r.links c.args.nodes c.args.place c.loop-turn.least c.loop-turn.next (going c.args.pass.now) (going c.loop-turn.pass)
    (going c.pass_rest.new.pass) (r.node_is ∙ r.is) c.loop-turn.invariant.same
    (sym
    (pass_turn n c.args.depth c.loop-turn.next b c.args.at c.bytes-bytes.result.now c.args.path.now c.in-Some.turn r c.in-Some.ensures.some refl c.loop-turn.least
    (going c.loop-turn.pass) (going c.pass_rest.new.pass) c.pass_rest.ensures)
    ∙ pass_ended (going c.pass_rest.new.pass) more (sym c.is_some.ensures ∙ c.if-is_some.true))

pub overflow_add-next : goal.overflow_add-next
overflow_add-next g t c =
    let b = g.B.BlockStore.blocks c.args.store.now in
    let told = inner_bytes _ _ (tree_node _ _ _ _ c.bytes-bytes.result.now c.requires.tree c.bytes-bytes.ensures) (omega arith) c.if-bytes-eq0.false in
    let r = read_at (16 - c.args.depth) b c.args.at c.bytes-bytes.result.now c.requires.tree c.bytes-bytes.ensures told in
    let inside = turn_inside (16 - c.args.depth) c.args.depth c.loop-turn.next b c.args.at c.bytes-bytes.result.now c.args.path.now c.in-Some.turn r c.in-Some.ensures.some refl in
    omega (arith, inside.0, inside.1)

pub loop-turn-smaller : goal.loop-turn-smaller
loop-turn-smaller g t c =
    let b = g.B.BlockStore.blocks c.args.store.now in
    let told = inner_bytes _ _ (tree_node _ _ _ _ c.bytes-bytes.result.now c.requires.tree c.bytes-bytes.ensures) (omega arith) c.if-bytes-eq0.false in
    let r = read_at (16 - c.args.depth) b c.args.at c.bytes-bytes.result.now c.requires.tree c.bytes-bytes.ensures told in
    let inside = turn_inside (16 - c.args.depth) c.args.depth c.loop-turn.next b c.args.at c.bytes-bytes.result.now c.args.path.now c.in-Some.turn r c.in-Some.ensures.some refl in
    omega (arith, inside.0)

pub loop-turn-preserved : goal.loop-turn-preserved
loop-turn-preserved g t c =
    let b = g.B.BlockStore.blocks c.args.store.now in
    let n = 16 - c.args.depth in
    let told = inner_bytes _ _ (tree_node _ _ _ _ c.bytes-bytes.result.now c.requires.tree c.bytes-bytes.ensures) (omega arith) c.if-bytes-eq0.false in
    let r = read_at n b c.args.at c.bytes-bytes.result.now c.requires.tree c.bytes-bytes.ensures told in
    let inside = turn_inside n c.args.depth c.loop-turn.next b c.args.at c.bytes-bytes.result.now c.args.path.now c.in-Some.turn r c.in-Some.ensures.some refl in
    record {
      same = pass_turn n c.args.depth c.loop-turn.next b c.args.at c.bytes-bytes.result.now c.args.path.now c.in-Some.turn r c.in-Some.ensures.some refl c.loop-turn.least
          (going c.loop-turn.pass) (going c.pass_rest.new.pass) c.pass_rest.ensures ∙ c.loop-turn.invariant.same;
      within = omega (arith, inside.0);
      few = omega arith;
    }

pub returns : goal.returns
returns g t c =
    let b = g.B.BlockStore.blocks c.args.store.now in
    let n = 16 - c.args.depth in
    let front = take c.args.depth c.args.path.now in
    let told = inner_bytes _ _ (tree_node _ _ _ _ c.bytes-bytes.result.now c.requires.tree c.bytes-bytes.ensures) (omega arith) c.if-bytes-eq0.false in
    let r = read_at n b c.args.at c.bytes-bytes.result.now c.requires.tree c.bytes-bytes.ensures told in
    let past : slice_get (links_in (node_at b c.args.at)) c.loop-turn.next ≡ None = ap (λ m. slice_get (links_in m) c.loop-turn.next) r.node_is ∙ c.in_default.ensures.none in
    rest_ended n b c.args.at front r.prefix r.links c.args.nodes c.args.place c.loop-turn.least c.loop-turn.next (going c.args.pass.now) (going c.loop-turn.pass) (going c.loop-turn.pass)
    (r.node_is ∙ r.is) c.loop-turn.invariant.same
    (pass_past n b front (prefix_in (node_at b c.args.at)) (links_in (node_at b c.args.at)) c.loop-turn.least c.loop-turn.next (going c.loop-turn.pass) past)
