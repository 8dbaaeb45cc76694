use Rattle.std.proofs.Common.{◌≡◌, ◌∙◌, ◌<◌, sym, ap, subst, arith, length, refl}
use Rattle.std.proofs.lemmas.List.{take_rest}
use Rattle.std.proofs.lemmas.Option.{IfSome_then}
use Rattle.rax_packed.proofs.Spellings.{length_ref_bytes}
use Rattle.blocks.proofs.Serve.{served_same, served_once}
use Rattle.rax_packed.proofs.Looks.{tree_live, tree_node, found_leaf, found_parts, found_missing, found_link, link_below, shorter, leaf_room}
use Rattle.rax_packed.proofs.Steps.{own_below, set_link, set_leaf}
use Rattle.rax_packed.proofs.Settings.{both, leaf_marks_stay, leaf_keys_stay, link_keys_stay, link_marks_stay}
use Rattle.rax_packed.proofs.Tallies.{written_live}
use Rattle.rax_packed.proofs.edit.+set_below.Goals as goal

pub bytes-requires : goal.bytes-requires
bytes-requires g t c = tree_live _ _ _ _ c.requires.tree

pub way_of-requires : goal.way_of-requires
way_of-requires g t c = tree_node _ _ _ _ c.bytes.result.now c.requires.tree c.bytes.ensures

pub write-requires-clause-room : goal.write-requires-clause-room
write-requires-clause-room g t c =
    let long : length c.pack.result ≡ 12 = ap length c.pack.ensures.bytes ∙ length_ref_bytes c.args.value in
    let room = leaf_room (g.B.BlockStore.blocks c.args.store.now) c.args.at c.in-Leaf.old c.bytes.result.now c.args.rest.now c.requires.tree c.bytes.ensures c.in-Leaf.ensures in
    omega arith

pub set_below-requires : goal.set_below-requires
set_below-requires g t c κs within =
    let all = take_rest c.args.rest.now c.in-Link.from in
    let b = g.B.BlockStore.blocks c.args.store.now in (
      subst (λ xs. length xs < t) (sym all) (shorter _ _ c.args.rest.now _ _ t c.decreases c.in-Link.ensures),
      (
        within,
        (
          rw all ((link_below b c.args.at c.bytes.result.now c.args.rest.now c.requires.tree c.bytes.ensures c.in-Link.field-0 c.in-Link.from c.in-Link.to c.in-Link.ensures).tree),
          rw all (own_below b c.args.at c.in-Link.to c.bytes.result.now c.args.rest.now c.in-Link.field-0 c.in-Link.from c.requires.tree c.bytes.ensures c.in-Link.ensures c.requires.owned),
        ),
      ),
    )

pub returns-in-Leaf-clause-old : goal.returns-in-Leaf-clause-old
returns-in-Leaf-clause-old g t c = sym (found_leaf _ _ c.bytes.result.now c.args.rest.now c.requires.tree c.bytes.ensures c.in-Leaf.old c.in-Leaf.ensures)

pub returns-in-Leaf-clause-set : goal.returns-in-Leaf-clause-set
returns-in-Leaf-clause-set g t c =
    set_leaf (g.B.BlockStore.blocks c.args.store.now) (g.B.BlockStore.blocks c.write.new.self) c.args.at c.in-Leaf.old c.args.value c.bytes.result.now c.args.rest.now c.requires.tree
    c.requires.owned c.bytes.ensures c.in-Leaf.ensures c.pack.ensures.fits
    (rw c.pack.ensures.bytes at c.write.ensures.written)

pub returns-in-Leaf-clause-served : goal.returns-in-Leaf-clause-served
returns-in-Leaf-clause-served g t c = served_once _ _ c.write.ensures.step

pub returns-in-Parts-clause-old : goal.returns-in-Parts-clause-old
returns-in-Parts-clause-old g t c = sym (found_parts _ _ c.bytes.result.now c.args.rest.now c.requires.tree c.bytes.ensures c.in-Parts.field-0 c.in-Parts.ensures)

pub returns-in-Parts-clause-served : goal.returns-in-Parts-clause-served
returns-in-Parts-clause-served g t c = served_same _ _ refl

pub returns-in-Missing-clause-old : goal.returns-in-Missing-clause-old
returns-in-Missing-clause-old g t c = sym (found_missing _ _ c.bytes.result.now c.args.rest.now c.requires.tree c.bytes.ensures c.in-Missing.field-0 c.in-Missing.field-1 c.in-Missing.ensures)

pub returns-in-Missing-clause-served : goal.returns-in-Missing-clause-served
returns-in-Missing-clause-served g t c = served_same _ _ refl

pub returns-in-Link-clause-old : goal.returns-in-Link-clause-old
returns-in-Link-clause-old g t c =
    rw (take_rest c.args.rest.now c.in-Link.from) at c.set_below.ensures.old
    ∙ sym
    (found_link (g.B.BlockStore.blocks c.args.store.now) c.args.at c.bytes.result.now c.args.rest.now c.requires.tree c.bytes.ensures c.in-Link.field-0 c.in-Link.from c.in-Link.to
    c.in-Link.ensures)

pub returns-in-Link-clause-set : goal.returns-in-Link-clause-set
returns-in-Link-clause-set g t c =
    let b = g.B.BlockStore.blocks c.args.store.now in
    let mid = g.B.BlockStore.blocks c.set_below.new.store in
    IfSome_then c.set_below.result (rw (take_rest c.args.rest.now c.in-Link.from) at c.set_below.ensures.set)
    (λ old below. set_link b c.args.at c.in-Link.to c.bytes.result.now c.args.rest.now c.in-Link.field-0 c.in-Link.from c.requires.tree c.bytes.ensures c.in-Link.ensures mid
    c.args.value c.requires.owned below)

pub returns-in-Leaf-clause-stays : goal.returns-in-Leaf-clause-stays
returns-in-Leaf-clause-stays g t c = written_live (g.B.BlockStore.blocks c.args.store.now) (g.B.BlockStore.blocks c.write.new.self) c.args.at _ (tree_live _ _ _ _ c.requires.tree)
    c.write.ensures.written

pub returns-in-Leaf-clause-keys : goal.returns-in-Leaf-clause-keys
returns-in-Leaf-clause-keys g t c =
    leaf_keys_stay (g.B.BlockStore.blocks c.args.store.now) (g.B.BlockStore.blocks c.write.new.self) c.args.at c.in-Leaf.old c.args.value c.bytes.result.now c.args.rest.now c.requires.tree
    c.requires.owned c.bytes.ensures c.in-Leaf.ensures c.pack.ensures.fits
    (rw c.pack.ensures.bytes at c.write.ensures.written)

pub returns-in-Leaf-clause-marks : goal.returns-in-Leaf-clause-marks
returns-in-Leaf-clause-marks g t c =
    leaf_marks_stay (g.B.BlockStore.blocks c.args.store.now) (g.B.BlockStore.blocks c.write.new.self) c.args.at c.in-Leaf.old c.args.value c.bytes.result.now c.args.rest.now
    c.requires.tree c.requires.owned c.bytes.ensures c.in-Leaf.ensures c.pack.ensures.fits
    (rw c.pack.ensures.bytes at c.write.ensures.written)

pub returns-in-Link-clause-keys : goal.returns-in-Link-clause-keys
returns-in-Link-clause-keys g t c =
    let b = g.B.BlockStore.blocks c.args.store.now in
    let mid = g.B.BlockStore.blocks c.set_below.new.store in
    IfSome_then c.set_below.result (rw (take_rest c.args.rest.now c.in-Link.from) at c.set_below.ensures.keys)
    (λ old same. link_keys_stay b mid c.args.at c.in-Link.to c.bytes.result.now c.args.rest.now c.in-Link.field-0 c.in-Link.from c.args.value c.requires.tree c.bytes.ensures
    c.in-Link.ensures same)

pub returns-in-Link-clause-marks : goal.returns-in-Link-clause-marks
returns-in-Link-clause-marks g t c =
    let b = g.B.BlockStore.blocks c.args.store.now in
    let mid = g.B.BlockStore.blocks c.set_below.new.store in
    let all = take_rest c.args.rest.now c.in-Link.from in
    IfSome_then c.set_below.result
    (both c.set_below.result _ _ (rw all at c.set_below.ensures.set) (both c.set_below.result _ _ (rw all at c.set_below.ensures.keys) (rw all at c.set_below.ensures.marks)))
    (λ old all. link_marks_stay b mid c.args.at c.in-Link.to c.bytes.result.now c.args.rest.now c.in-Link.field-0 c.in-Link.from c.args.value c.requires.tree c.bytes.ensures
    c.in-Link.ensures c.requires.owned all.0 all.1.0 all.1.1)
