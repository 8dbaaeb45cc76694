use Rattle.std.proofs.Common.{◌≡◌, ◌∙◌, ◌-◌, ◌<◌, ◌≤◌, sym, ap, subst, refl, arith, suc, length, get_or, IsSome, []}
use Rattle.std.proofs.lemmas.List.{take_all}
use Rattle.blocks.specs.Blocks.{Changes}
use Rattle.blocks.proofs.Change.{changes_same}
use Rattle.blocks.proofs.Serve.{served_same, served_next, served_then}
use Rattle.rax_packed.specs.Nodes.{Link, node_of}
use Rattle.rax_packed.specs.Trees.{node_at}
use Rattle.rax_packed.specs.Ways.{IsInnerBytes, links_in, prefix_in}
use Rattle.rax_packed.proofs.Frames.{refs_below}
use Rattle.rax_packed.proofs.Looks.{tree_live, tree_node, node_read, same_some}
use Rattle.rax_packed.proofs.Releases.{with_link, node_refs, node_own, node_trees, mid_block, mid_child, mid_own, mid_next, last_block, all_gone}
use Rattle.rax_packed.proofs.release.+release_below.Goals as goal

pub bytes-requires : goal.bytes-requires
bytes-requires g t c = tree_live _ _ _ _ c.requires.tree

pub spread-count-requires-clause-node : goal.spread-count-requires-clause-node
spread-count-requires-clause-node g t c = tree_node _ _ _ _ c.bytes.result.now c.requires.tree c.bytes.ensures

pub loop-place-init : goal.loop-place-init
loop-place-init g t c = record { changes = changes_same _ [] (λ r. omega arith); served = served_same _ _ refl }

no_link : Link
no_link = record { edge = 0; to = record { slab = 0; slot = 0 } }

pub bytes-requires-in-loop-place : goal.bytes-requires-in-loop-place
bytes-requires-in-loop-place g t c =
    let b = g.B.BlockStore.blocks c.args.store.now in
    let mid = g.B.BlockStore.blocks c.loop-place.store in
    let node : node_at b c.args.at ≡ node_of c.bytes.result.now = node_read b c.args.at c.bytes.result.now c.bytes.ensures in
    let count : c.spread-count.result.0 ≡ length (links_in (node_at b c.args.at)) = c.spread-count.ensures.count ∙ ap (λ m. length (links_in m)) (sym node) in
    let within : c.loop-place.place < length (links_in (node_at b c.args.at)) = (let less = c.loop-place-test.true in omega arith) in
    let gone = c.loop-place.invariant.changes in
    let same = mid_block c.args.rest (c.args.rest - suc (length (prefix_in (node_at b c.args.at)))) b c.args.at (links_in (node_at b c.args.at))
    (node_trees c.args.rest b c.args.at c.requires.tree) (node_own c.args.rest b c.args.at c.requires.owned) mid c.loop-place.place no_link within gone in
    subst (λ o. IsSome o) (sym same) (tree_live _ _ b c.args.at c.requires.tree)

pub child_at-to-requires : goal.child_at-to-requires
child_at-to-requires g t c =
    let b = g.B.BlockStore.blocks c.args.store.now in
    let mid = g.B.BlockStore.blocks c.loop-place.store in
    let node : node_at b c.args.at ≡ node_of c.bytes.result.now = node_read b c.args.at c.bytes.result.now c.bytes.ensures in
    let count : c.spread-count.result.0 ≡ length (links_in (node_at b c.args.at)) = c.spread-count.ensures.count ∙ ap (λ m. length (links_in m)) (sym node) in
    let within : c.loop-place.place < length (links_in (node_at b c.args.at)) = (let less = c.loop-place-test.true in omega arith) in
    let gone = c.loop-place.invariant.changes in
    let same = mid_block c.args.rest (c.args.rest - suc (length (prefix_in (node_at b c.args.at)))) b c.args.at (links_in (node_at b c.args.at))
    (node_trees c.args.rest b c.args.at c.requires.tree) (node_own c.args.rest b c.args.at c.requires.owned) mid c.loop-place.place no_link within gone in
    let again : c.bytes.result.now ≡ c.bytes-in-loop-place.result.now =
    same_some c.bytes.result.now c.bytes-in-loop-place.result.now (sym c.bytes.ensures ∙ sym same ∙ c.bytes-in-loop-place.ensures) in
    let told = with_link c.args.rest c.bytes.result.now c.loop-place.place (tree_node _ _ _ _ c.bytes.result.now c.requires.tree c.bytes.ensures) c.requires.short
    (omega (arith, ap (λ m. length (links_in m)) node)) in
    record { inner = subst IsInnerBytes again told.0; place = subst (λ xs. c.loop-place.place < length (links_in (node_of xs))) again (omega (arith, ap (λ m. length (links_in m)) node)) }

pub release_below-requires : goal.release_below-requires
release_below-requires g t c κs within =
    let b = g.B.BlockStore.blocks c.args.store.now in
    let mid = g.B.BlockStore.blocks c.loop-place.store in
    let node : node_at b c.args.at ≡ node_of c.bytes.result.now = node_read b c.args.at c.bytes.result.now c.bytes.ensures in
    let count : c.spread-count.result.0 ≡ length (links_in (node_at b c.args.at)) = c.spread-count.ensures.count ∙ ap (λ m. length (links_in m)) (sym node) in
    let inside : c.loop-place.place < length (links_in (node_at b c.args.at)) = (let less = c.loop-place-test.true in omega arith) in
    let gone = c.loop-place.invariant.changes in
    let same = mid_block c.args.rest (c.args.rest - suc (length (prefix_in (node_at b c.args.at)))) b c.args.at (links_in (node_at b c.args.at))
    (node_trees c.args.rest b c.args.at c.requires.tree) (node_own c.args.rest b c.args.at c.requires.owned) mid c.loop-place.place no_link inside gone in
    let again : c.bytes.result.now ≡ c.bytes-in-loop-place.result.now =
    same_some c.bytes.result.now c.bytes-in-loop-place.result.now (sym c.bytes.ensures ∙ sym same ∙ c.bytes-in-loop-place.ensures) in
    let told = with_link c.args.rest c.bytes.result.now c.loop-place.place (tree_node _ _ _ _ c.bytes.result.now c.requires.tree c.bytes.ensures) c.requires.short
    (omega (arith, ap (λ m. length (links_in m)) node)) in
    let below : c.spread-count.result.1 ≡ c.args.rest - suc (length (prefix_in (node_at b c.args.at))) = c.spread-count.ensures.below ∙ ap (λ m. c.args.rest - suc (length (prefix_in m))) (sym node) in
    let to : c.child_at-to.result ≡ (get_or (links_in (node_at b c.args.at)) c.loop-place.place no_link).to = c.child_at-to.ensures no_link
    ∙ ap (λ xs. (get_or (links_in (node_of xs)) c.loop-place.place no_link).to) (sym again) ∙ ap (λ m. (get_or (links_in m) c.loop-place.place no_link).to) (sym node) in
    let child = mid_child c.args.rest (c.args.rest - suc (length (prefix_in (node_at b c.args.at)))) b c.args.at (links_in (node_at b c.args.at))
    (node_trees c.args.rest b c.args.at c.requires.tree) (node_own c.args.rest b c.args.at c.requires.owned) mid c.loop-place.place no_link inside gone in
    let owns = mid_own c.args.rest (c.args.rest - suc (length (prefix_in (node_at b c.args.at)))) b c.args.at (links_in (node_at b c.args.at))
    (node_trees c.args.rest b c.args.at c.requires.tree) (node_own c.args.rest b c.args.at c.requires.owned) mid c.loop-place.place no_link inside gone in (
      omega (arith, c.decreases, told.1, c.spread-count.ensures.below),
      (
        within,
        (
          rw (below, to) child.tree,
          (
            rw (below, to) owns,
            omega (arith, told.1, c.spread-count.ensures.below, c.requires.short),
          ),
        ),
      ),
    )

pub loop-place-preserved : goal.loop-place-preserved
loop-place-preserved g t c =
    let b = g.B.BlockStore.blocks c.args.store.now in
    let mid = g.B.BlockStore.blocks c.loop-place.store in
    let node : node_at b c.args.at ≡ node_of c.bytes.result.now = node_read b c.args.at c.bytes.result.now c.bytes.ensures in
    let count : c.spread-count.result.0 ≡ length (links_in (node_at b c.args.at)) = c.spread-count.ensures.count ∙ ap (λ m. length (links_in m)) (sym node) in
    let within : c.loop-place.place < length (links_in (node_at b c.args.at)) = (let less = c.loop-place-test.true in omega arith) in
    let gone = c.loop-place.invariant.changes in
    let same = mid_block c.args.rest (c.args.rest - suc (length (prefix_in (node_at b c.args.at)))) b c.args.at (links_in (node_at b c.args.at))
    (node_trees c.args.rest b c.args.at c.requires.tree) (node_own c.args.rest b c.args.at c.requires.owned) mid c.loop-place.place no_link within gone in
    let again : c.bytes.result.now ≡ c.bytes-in-loop-place.result.now =
    same_some c.bytes.result.now c.bytes-in-loop-place.result.now (sym c.bytes.ensures ∙ sym same ∙ c.bytes-in-loop-place.ensures) in
    let told = with_link c.args.rest c.bytes.result.now c.loop-place.place (tree_node _ _ _ _ c.bytes.result.now c.requires.tree c.bytes.ensures) c.requires.short
    (omega (arith, ap (λ m. length (links_in m)) node)) in
    let below : c.spread-count.result.1 ≡ c.args.rest - suc (length (prefix_in (node_at b c.args.at))) = c.spread-count.ensures.below ∙ ap (λ m. c.args.rest - suc (length (prefix_in m))) (sym node) in
    let to : c.child_at-to.result ≡ (get_or (links_in (node_at b c.args.at)) c.loop-place.place no_link).to = c.child_at-to.ensures no_link
    ∙ ap (λ xs. (get_or (links_in (node_of xs)) c.loop-place.place no_link).to) (sym again) ∙ ap (λ m. (get_or (links_in m) c.loop-place.place no_link).to) (sym node) in
    record {
      changes = mid_next c.args.rest (c.args.rest - suc (length (prefix_in (node_at b c.args.at)))) b c.args.at (links_in (node_at b c.args.at))
          (node_trees c.args.rest b c.args.at c.requires.tree) (node_own c.args.rest b c.args.at c.requires.owned) mid c.loop-place.place no_link within gone
          (g.B.BlockStore.blocks c.release_below.new.store) (rw (below, to) at c.release_below.ensures.changes);
      served = served_then _ _ _ c.loop-place.invariant.served c.release_below.ensures.served;
    }

pub give_back-requires : goal.give_back-requires
give_back-requires g t c =
    let b = g.B.BlockStore.blocks c.args.store.now in
    let mid = g.B.BlockStore.blocks c.loop-place.store in
    let node : node_at b c.args.at ≡ node_of c.bytes.result.now = node_read b c.args.at c.bytes.result.now c.bytes.ensures in
    let count : c.spread-count.result.0 ≡ length (links_in (node_at b c.args.at)) = c.spread-count.ensures.count ∙ ap (λ m. length (links_in m)) (sym node) in
    let most : length (links_in (node_at b c.args.at)) ≤ c.loop-place.place = (let past = c.loop-place-test.false in omega arith) in
    let gone : Changes b mid (refs_below c.args.rest b (links_in (node_at b c.args.at))) [] =
    subst (λ ls. Changes b mid (refs_below c.args.rest b ls) []) (take_all c.loop-place.place (links_in (node_at b c.args.at)) most) c.loop-place.invariant.changes in
    subst (λ o. IsSome o)
    (sym
    (last_block c.args.rest (c.args.rest - suc (length (prefix_in (node_at b c.args.at)))) b c.args.at (links_in (node_at b c.args.at))
    (node_trees c.args.rest b c.args.at c.requires.tree) (node_own c.args.rest b c.args.at c.requires.owned) mid gone)) (tree_live _ _ b c.args.at c.requires.tree)

pub returns-clause-changes : goal.returns-clause-changes
returns-clause-changes g t c =
    let b = g.B.BlockStore.blocks c.args.store.now in
    let mid = g.B.BlockStore.blocks c.loop-place.store in
    let node : node_at b c.args.at ≡ node_of c.bytes.result.now = node_read b c.args.at c.bytes.result.now c.bytes.ensures in
    let count : c.spread-count.result.0 ≡ length (links_in (node_at b c.args.at)) = c.spread-count.ensures.count ∙ ap (λ m. length (links_in m)) (sym node) in
    let most : length (links_in (node_at b c.args.at)) ≤ c.loop-place.place = (let past = c.loop-place-test.false in omega arith) in
    let gone : Changes b mid (refs_below c.args.rest b (links_in (node_at b c.args.at))) [] =
    subst (λ ls. Changes b mid (refs_below c.args.rest b ls) []) (take_all c.loop-place.place (links_in (node_at b c.args.at)) most) c.loop-place.invariant.changes in
    subst (λ xs. Changes b (g.B.BlockStore.blocks c.give_back.new.self) xs []) (sym (node_refs c.args.rest b c.args.at))
    (all_gone c.args.rest (c.args.rest - suc (length (prefix_in (node_at b c.args.at)))) b c.args.at (links_in (node_at b c.args.at))
    (node_trees c.args.rest b c.args.at c.requires.tree) (node_own c.args.rest b c.args.at c.requires.owned) mid (g.B.BlockStore.blocks c.give_back.new.self) gone
    c.give_back.ensures.ended)

pub returns-clause-served : goal.returns-clause-served
returns-clause-served g t c = served_next _ _ _ c.loop-place.invariant.served c.give_back.ensures.step
