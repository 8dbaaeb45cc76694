use Rattle.std.proofs.Common.{◌-◌, ap, subst, refl, arith, length, unwrap_or, []}
use Rattle.rax_packed.specs.Ways.{IsInnerBytes, prefix_in}
use Rattle.rax_packed.proofs.Turnings.{read_at, turn_named, turn_within, turn_found, turn_none}
use Rattle.rax_packed.proofs.seek.beyond.Goals as goal

pub next_turn-requires-clause-within : goal.next_turn-requires-clause-within
next_turn-requires-clause-within g c =
    let b = g.B.BlockStore.blocks c.args.store.now in
    let told : IsInnerBytes c.bytes.result.now = subst IsInnerBytes (ap (λ o. unwrap_or o []) c.bytes.ensures) c.requires.inner in
    let r = read_at (16 - c.args.depth) b c.args.at c.bytes.result.now c.requires.tree c.bytes.ensures told in
    let short = r.node.inner.short in
    omega (arith, ap (λ m. length (prefix_in m)) r.is, c.requires.within)

pub end_below-requires : goal.end_below-requires
end_below-requires g c =
    let b = g.B.BlockStore.blocks c.args.store.now in
    let told : IsInnerBytes c.bytes.result.now = subst IsInnerBytes (ap (λ o. unwrap_or o []) c.bytes.ensures) c.requires.inner in
    let r = read_at (16 - c.args.depth) b c.args.at c.bytes.result.now c.requires.tree c.bytes.ensures told in
    record {
      within = turn_within c.args.up (16 - c.args.depth) c.args.depth c.args.place b c.args.at c.bytes.result.now c.args.path.now c.in-Some.turn r c.in-Some.ensures.some refl;
      tree = (turn_named c.args.up (16 - c.args.depth) c.args.depth c.args.place b c.args.at c.bytes.result.now c.args.path.now c.in-Some.turn r c.in-Some.ensures.some refl).tree;
    }

pub returns-in-None : goal.returns-in-None
returns-in-None g c =
    let b = g.B.BlockStore.blocks c.args.store.now in
    let told : IsInnerBytes c.bytes.result.now = subst IsInnerBytes (ap (λ o. unwrap_or o []) c.bytes.ensures) c.requires.inner in
    let r = read_at (16 - c.args.depth) b c.args.at c.bytes.result.now c.requires.tree c.bytes.ensures told in
    turn_none c.args.up (16 - c.args.depth) c.args.depth c.args.place b c.args.at c.bytes.result.now c.args.path.now r (rw r.node_is at c.requires.place) c.in-None.ensures.none

pub returns-in-Some : goal.returns-in-Some
returns-in-Some g c =
    let b = g.B.BlockStore.blocks c.args.store.now in
    let told : IsInnerBytes c.bytes.result.now = subst IsInnerBytes (ap (λ o. unwrap_or o []) c.bytes.ensures) c.requires.inner in
    let r = read_at (16 - c.args.depth) b c.args.at c.bytes.result.now c.requires.tree c.bytes.ensures told in
    turn_found c.args.up (16 - c.args.depth) c.args.depth c.args.place b c.args.at c.bytes.result.now c.args.path.now c.in-Some.turn r c.in-Some.ensures.some refl c.end_below.result
    c.end_below.ensures
