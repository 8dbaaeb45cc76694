use Rattle.std.proofs.Common.{refl, ◌∙◌, ◌+◌, ◌<◌, cond, sym, subst, ap, arith, length, IsSome}
use Rattle.std.proofs.lemmas.List.{take_rest}
use Rattle.rax_packed.proofs.Cuts.{no_value}
use Rattle.rax_packed.proofs.Looks.{tree_live, tree_node, node_read, found_parts, found_missing, found_link, link_below, shorter}
use Rattle.rax_packed.proofs.Growths.{put_live}
use Rattle.rax_packed.proofs.Steps.{own_below, kept_block, link_ready}
use Rattle.blocks.specs.Blocks.{ref_eq}
use Rattle.blocks.specs.Slabs.{Calmer, wants}
use Rattle.blocks.proofs.Sweeps.{calmer_next}
use Rattle.rax_packed.proofs.Paths.{leaf_first}
use Rattle.rax_packed.proofs.Relocations.{one_most, moved_becomes, leaf_passed, leaf_moved, relocated, relocated_passed, relocated_moved, relocated_least}
use Rattle.rax_packed.proofs.relocate.+relocate_below.Goals as goal

pub bytes-requires : goal.bytes-requires
bytes-requires g t c = tree_live _ _ _ _ c.requires.tree

pub way_of-requires : goal.way_of-requires
way_of-requires g t c = tree_node _ _ _ _ c.bytes.result.now c.requires.tree c.bytes.ensures

pub unreachable-requires : goal.unreachable-requires
unreachable-requires g t c = no_value
    (found_parts (g.B.BlockStore.blocks c.args.store.now) c.args.at c.bytes.result.now c.args.rest.now c.requires.tree c.bytes.ensures c.in-Parts.field-0 c.in-Parts.ensures)
    c.requires.stands

pub unreachable-requires-in-Missing : goal.unreachable-requires-in-Missing
unreachable-requires-in-Missing g t c = no_value
    (found_missing (g.B.BlockStore.blocks c.args.store.now) c.args.at c.bytes.result.now c.args.rest.now c.requires.tree c.bytes.ensures c.in-Missing.field-0 c.in-Missing.field-1
    c.in-Missing.ensures) c.requires.stands

pub relocate_below-below-requires : goal.relocate_below-below-requires
relocate_below-below-requires g t c κs within =
    let all = take_rest c.args.rest.now c.in-Link.from in
    let b = g.B.BlockStore.blocks c.args.store.now in
    let less = shorter _ _ c.args.rest.now _ _ t c.decreases c.in-Link.ensures in
    let found = found_link b c.args.at c.bytes.result.now c.args.rest.now c.requires.tree c.bytes.ensures c.in-Link.place c.in-Link.from c.in-Link.to c.in-Link.ensures in (
      subst (λ xs. length xs < t) (sym all) less,
      (
        within,
        (
          rw all ((link_below b c.args.at c.bytes.result.now c.args.rest.now c.requires.tree c.bytes.ensures c.in-Link.place c.in-Link.from c.in-Link.to c.in-Link.ensures).tree),
          (
            rw all (own_below b c.args.at c.in-Link.to c.bytes.result.now c.args.rest.now c.in-Link.place c.in-Link.from c.requires.tree c.bytes.ensures c.in-Link.ensures c.requires.owned),
            (
              rw all (omega (arith, c.decreases)),
              rw all (subst (λ o. IsSome o) found c.requires.stands),
            ),
          ),
        ),
      ),
    )

pub relink-requires : goal.relink-requires
relink-requires g t c =
    let b = g.B.BlockStore.blocks c.args.store.now in
    let mid = g.B.BlockStore.blocks c.relocate_below-below.new.store in
    let all = take_rest c.args.rest.now c.in-Link.from in
    let becomes = rw all at c.relocate_below-below.ensures.becomes in
    let same = kept_block b c.args.at c.in-Link.to c.bytes.result.now c.args.rest.now c.in-Link.place c.in-Link.from c.requires.tree c.bytes.ensures c.in-Link.ensures mid _
    c.requires.owned becomes.changes in
    let ready = link_ready b mid c.args.at c.in-Link.to c.bytes.result.now c.args.rest.now c.in-Link.place c.in-Link.from c.requires.tree c.bytes.ensures c.in-Link.ensures c.requires.short same in
    record { live = ready.live; inner = ready.inner; place = ready.within }

pub returns-in-Leaf-clause-becomes : goal.returns-in-Leaf-clause-becomes
returns-in-Leaf-clause-becomes g t c = moved_becomes (length c.args.rest.now) (g.B.BlockStore.blocks c.args.store.now) (g.B.BlockStore.blocks c.pass_node.new.store) c.args.at
    c.pass_node.result.at c.requires.tree c.requires.owned c.pass_node.ensures.bytes c.pass_node.ensures.changes

pub returns-in-Leaf-clause-passed : goal.returns-in-Leaf-clause-passed
returns-in-Leaf-clause-passed g t c =
    let b = g.B.BlockStore.blocks c.args.store.now in
    let node = node_read b c.args.at c.bytes.result.now c.bytes.ensures ∙ c.in-Leaf.ensures in
    leaf_passed b (g.B.BlockStore.blocks c.pass_node.new.store) c.args.at c.pass_node.result.at c.in-Leaf.field-0 c.args.rest.now c.requires.tree c.requires.owned node
    c.pass_node.ensures.bytes c.pass_node.ensures.changes
    (g.B.BlockStore.heap c.args.store.now) (g.B.BlockStore.heap c.pass_node.new.store) (c.pass_node.ensures.calm refl) c.pass_node.ensures.stays

pub returns-in-Leaf-clause-moved : goal.returns-in-Leaf-clause-moved
returns-in-Leaf-clause-moved g t c =
    let b = g.B.BlockStore.blocks c.args.store.now in
    let node = node_read b c.args.at c.bytes.result.now c.bytes.ensures ∙ c.in-Leaf.ensures in
    c.pass_node.ensures.moved ∙ sym
    (leaf_moved b (g.B.BlockStore.blocks c.pass_node.new.store) c.args.at c.pass_node.result.at c.in-Leaf.field-0 c.args.rest.now c.requires.tree c.requires.owned node
    c.pass_node.ensures.bytes c.pass_node.ensures.changes)

pub returns-in-Leaf-clause-least : goal.returns-in-Leaf-clause-least
returns-in-Leaf-clause-least g t c =
    let b = g.B.BlockStore.blocks c.args.store.now in
    let node = node_read b c.args.at c.bytes.result.now c.bytes.ensures ∙ c.in-Leaf.ensures in
    c.pass_node.ensures.least ∙ sym (leaf_first (length c.args.rest.now) b c.args.at c.args.rest.now c.in-Leaf.field-0 node)

pub returns-in-Link-clause-becomes : goal.returns-in-Link-clause-becomes
returns-in-Link-clause-becomes g t c =
    let all = take_rest c.args.rest.now c.in-Link.from in
    let b = g.B.BlockStore.blocks c.args.store.now in
    relocated b (g.B.BlockStore.blocks c.relocate_below-below.new.store) (g.B.BlockStore.blocks c.relink.new.store) (g.B.BlockStore.blocks c.pass_node-in-Link.new.store) c.args.at
    c.in-Link.to c.relocate_below-below.result.at c.pass_node-in-Link.result.at c.bytes.result.now c.args.rest.now c.in-Link.place c.in-Link.from
    c.requires.tree c.bytes.ensures c.in-Link.ensures c.requires.owned (rw all at c.relocate_below-below.ensures.becomes) c.relink.ensures.fits c.relink.ensures.written
    c.pass_node-in-Link.ensures.bytes c.pass_node-in-Link.ensures.changes

pub returns-in-Link-clause-least : goal.returns-in-Link-clause-least
returns-in-Link-clause-least g t c =
    let all = take_rest c.args.rest.now c.in-Link.from in
    let b = g.B.BlockStore.blocks c.args.store.now in
    c.pass_node-in-Link.ensures.least
    ∙ relocated_least b (g.B.BlockStore.blocks c.relocate_below-below.new.store) (g.B.BlockStore.blocks c.relink.new.store) (g.B.BlockStore.blocks c.pass_node-in-Link.new.store) c.args.at
    c.in-Link.to c.relocate_below-below.result.at c.pass_node-in-Link.result.at c.bytes.result.now c.args.rest.now c.in-Link.place c.in-Link.from
    c.requires.tree c.bytes.ensures c.in-Link.ensures c.requires.owned (rw all at c.relocate_below-below.ensures.becomes) c.relink.ensures.fits c.relink.ensures.written
    c.pass_node-in-Link.ensures.bytes c.pass_node-in-Link.ensures.changes
    c.relocate_below-below.result.least c.is_least.result (rw all at c.relocate_below-below.ensures.least) c.is_least.ensures.first c.is_least.ensures.other

pub returns-in-Link-clause-passed : goal.returns-in-Link-clause-passed
returns-in-Link-clause-passed g t c =
    let all = take_rest c.args.rest.now c.in-Link.from in
    let b = g.B.BlockStore.blocks c.args.store.now in
    let k = g.B.BlockStore.heap c.relocate_below-below.new.store in
    let l = g.B.BlockStore.heap c.pass_node-in-Link.new.store in
    let same = c.relink.ensures.slabs in
    let least = relocated_least b (g.B.BlockStore.blocks c.relocate_below-below.new.store) (g.B.BlockStore.blocks c.relink.new.store) (g.B.BlockStore.blocks c.pass_node-in-Link.new.store)
    c.args.at c.in-Link.to c.relocate_below-below.result.at c.pass_node-in-Link.result.at c.bytes.result.now c.args.rest.now c.in-Link.place c.in-Link.from
    c.requires.tree c.bytes.ensures c.in-Link.ensures c.requires.owned (rw all at c.relocate_below-below.ensures.becomes) c.relink.ensures.fits c.relink.ensures.written
    c.pass_node-in-Link.ensures.bytes c.pass_node-in-Link.ensures.changes
    c.relocate_below-below.result.least c.is_least.result (rw all at c.relocate_below-below.ensures.least) c.is_least.ensures.first c.is_least.ensures.other in
    relocated_passed b (g.B.BlockStore.blocks c.relocate_below-below.new.store) (g.B.BlockStore.blocks c.relink.new.store) (g.B.BlockStore.blocks c.pass_node-in-Link.new.store) c.args.at
    c.in-Link.to c.relocate_below-below.result.at c.pass_node-in-Link.result.at c.bytes.result.now c.args.rest.now c.in-Link.place c.in-Link.from
    c.requires.tree c.bytes.ensures c.in-Link.ensures c.requires.owned (rw all at c.relocate_below-below.ensures.becomes) c.relink.ensures.fits c.relink.ensures.written
    c.pass_node-in-Link.ensures.bytes c.pass_node-in-Link.ensures.changes
    (g.B.BlockStore.heap c.args.store.now) k l (rw all at c.relocate_below-below.ensures.passed) c.is_least.result least c.relocate_below-below.ensures.calmer
    (subst (λ h. Calmer h l) same c.pass_node-in-Link.ensures.calmer)
    c.pass_node-in-Link.ensures.calm c.pass_node-in-Link.ensures.others (λ e. c.pass_node-in-Link.ensures.stays (ap (λ h. wants h c.args.at) same ∙ e))

pub returns-in-Link-clause-moved : goal.returns-in-Link-clause-moved
returns-in-Link-clause-moved g t c =
    let all = take_rest c.args.rest.now c.in-Link.from in
    let b = g.B.BlockStore.blocks c.args.store.now in
    c.pass_node-in-Link.ensures.moved ∙ ap (λ m. cond (ref_eq c.args.at c.pass_node-in-Link.result.at) 0 1 + m) (rw all at c.relocate_below-below.ensures.moved)
    ∙ sym
    (relocated_moved b (g.B.BlockStore.blocks c.relocate_below-below.new.store) (g.B.BlockStore.blocks c.relink.new.store) (g.B.BlockStore.blocks c.pass_node-in-Link.new.store)
    c.args.at c.in-Link.to c.relocate_below-below.result.at c.pass_node-in-Link.result.at c.bytes.result.now c.args.rest.now c.in-Link.place c.in-Link.from
    c.requires.tree c.bytes.ensures c.in-Link.ensures c.requires.owned (rw all at c.relocate_below-below.ensures.becomes) c.relink.ensures.fits c.relink.ensures.written
    c.pass_node-in-Link.ensures.bytes c.pass_node-in-Link.ensures.changes
    (g.B.BlockStore.heap c.args.store.now) (g.B.BlockStore.heap c.relocate_below-below.new.store) (g.B.BlockStore.heap c.pass_node-in-Link.new.store) (rw all at c.relocate_below-below.ensures.passed))

pub returns-in-Link-clause-calmer : goal.returns-in-Link-clause-calmer
returns-in-Link-clause-calmer g t c =
    calmer_next (g.B.BlockStore.heap c.args.store.now) (g.B.BlockStore.heap c.relocate_below-below.new.store) (g.B.BlockStore.heap c.pass_node-in-Link.new.store) c.relocate_below-below.ensures.calmer
    (subst (λ h. Calmer h (g.B.BlockStore.heap c.pass_node-in-Link.new.store)) c.relink.ensures.slabs c.pass_node-in-Link.ensures.calmer)

pub pass_node-requires-in-Link-clause-live : goal.pass_node-requires-in-Link-clause-live
pass_node-requires-in-Link-clause-live g t c =
    put_live (g.B.BlockStore.blocks c.relocate_below-below.new.store) (g.B.BlockStore.blocks c.relink.new.store) c.args.at _ (c.relink.ensures.written _ refl)

pub pass_node-requires-in-Link-clause-few : goal.pass_node-requires-in-Link-clause-few
pass_node-requires-in-Link-clause-few g t c =
    let few = rw (take_rest c.args.rest.now c.in-Link.from) at c.relocate_below-below.ensures.few in
    omega (arith, few, shorter _ _ c.args.rest.now _ _ (length c.args.rest.now) refl c.in-Link.ensures, c.requires.short)

pub returns-in-Leaf-clause-few : goal.returns-in-Leaf-clause-few
returns-in-Leaf-clause-few g t c = omega (arith, c.pass_node.ensures.moved, one_most (ref_eq c.args.at c.pass_node.result.at) 0)

pub returns-in-Link-clause-few : goal.returns-in-Link-clause-few
returns-in-Link-clause-few g t c =
    let few = rw (take_rest c.args.rest.now c.in-Link.from) at c.relocate_below-below.ensures.few in
    omega (
      arith,
      few,
      shorter _ _ c.args.rest.now _ _ (length c.args.rest.now) refl c.in-Link.ensures,
      c.pass_node-in-Link.ensures.moved,
      one_most (ref_eq c.args.at c.pass_node-in-Link.result.at) c.relocate_below-below.result.moved,
    )
