use Rattle.std.proofs.Common.{length, ◌∙◌, is_some, sym, ap, subst, arith}
use Rattle.rax_packed.specs.Maps.{entries_of, marks_of}
use Rattle.rax_packed.specs.Paths.{nodes_with}
use Rattle.rax_packed.specs.Packed.{value_at, with_entry}
use Rattle.std.specs.Prelude.{◌==◌}
use Rattle.blocks.specs.Slabs.{Calmer}
use Rattle.blocks.proofs.Sweeps.{calmer_next}
use Rattle.stream_node.specs.Ids.{id_number}
use Rattle.stream_object.specs.Parts.{parts_of, all_refs}
use Rattle.stream_object.specs.Relocation.{PassesAll, tree_marks}
use Rattle.stream_object.proofs.Exchanging.{stands_value}
use Rattle.stream_object.proofs.Movings.{at_live, settled_sound, settled_value, moves, passes, key_count}
use Rattle.stream_object.proofs.relocating.pass_key.Goals as goal

pub nodes_of-requires : goal.nodes_of-requires
nodes_of-requires g c =
    let m = g.B.BlockStore.blocks c.args.store.now in
    let t0 = c.args.tree.now in
    let h = c.requires.parts in
    let s = c.requires.stands in
    record { sound = h.stands; stands = ap is_some (ap (value_at (entries_of m t0)) c.key-name.ensures ∙ stands_value m t0 (parts_of m t0) c.args.key c.args.at h s) }

pub relocate_path-requires : goal.relocate_path-requires
relocate_path-requires g c =
    let m = g.B.BlockStore.blocks c.args.store.now in
    let t0 = c.args.tree.now in
    let h = c.requires.parts in
    let s = c.requires.stands in
    record { sound = h.stands; stands = ap is_some (ap (value_at (entries_of m t0)) c.key-name.ensures ∙ stands_value m t0 (parts_of m t0) c.args.key c.args.at h s) }

pub settle-new-requires : goal.settle-new-requires
settle-new-requires g c =
    let m = g.B.BlockStore.blocks c.args.store.now in
    let t0 = c.args.tree.now in
    let h = c.requires.parts in
    let s = c.requires.stands in
    let m1 = g.B.BlockStore.blocks c.relocate_path.new.store in
    let t1 = c.relocate_path.new.self in
    let sound1 = c.relocate_path.ensures.sound in
    let entries1 = c.relocate_path.ensures.entries in
    let changes1 = c.relocate_path.ensures.changes in
    at_live m m1 t0 t1 c.args.key c.args.at h s sound1 entries1 changes1

pub set-requires : goal.set-requires
set-requires g c =
    let m = g.B.BlockStore.blocks c.args.store.now in
    let t0 = c.args.tree.now in
    let h = c.requires.parts in
    let s = c.requires.stands in
    let m1 = g.B.BlockStore.blocks c.relocate_path.new.store in
    let t1 = c.relocate_path.new.self in
    let sound1 = c.relocate_path.ensures.sound in
    let entries1 = c.relocate_path.ensures.entries in
    let changes1 = c.relocate_path.ensures.changes in
    let m2 = g.B.BlockStore.blocks c.settle-new.new.store in
    let new = c.settle-new.result in
    settled_sound m m1 t0 t1 c.args.key c.args.at h s sound1 entries1 changes1 m2 new c.settle-new.ensures.bytes c.settle-new.ensures.changes

pub returns-clause-moves : goal.returns-clause-moves
returns-clause-moves g c =
    let m = g.B.BlockStore.blocks c.args.store.now in
    let t0 = c.args.tree.now in
    let h = c.requires.parts in
    let s = c.requires.stands in
    let m1 = g.B.BlockStore.blocks c.relocate_path.new.store in
    let t1 = c.relocate_path.new.self in
    let sound1 = c.relocate_path.ensures.sound in
    let entries1 = c.relocate_path.ensures.entries in
    let changes1 = c.relocate_path.ensures.changes in
    let m2 = g.B.BlockStore.blocks c.settle-new.new.store in
    let new = c.settle-new.result in
    let m3 = g.B.BlockStore.blocks c.set.new.store in
    let t2 = c.set.new.self in
    let h0 = g.B.BlockStore.heap c.args.store.now in
    let h1 = g.B.BlockStore.heap c.relocate_path.new.store in
    let passed1 = rw c.key-name.ensures at c.relocate_path.ensures.passed in
    let value = ap (value_at (entries_of m2 t1)) c.key-name.ensures
    ∙ settled_value m m1 t0 t1 c.args.key c.args.at h s sound1 entries1 changes1 m2 new c.settle-new.ensures.bytes c.settle-new.ensures.changes
    ∙ stands_value m t0 (parts_of m t0) c.args.key c.args.at h s in
    let there = c.set.ensures.there ∙ ap is_some value in
    let set3 = c.set.ensures.set there ∙ ap (λ k. with_entry (entries_of m2 t1) k new) c.key-name.ensures in
    moves m m1 t0 t1 c.args.key c.args.at h s sound1 entries1 changes1 m2 new c.settle-new.ensures.bytes c.settle-new.ensures.changes m3 t2 h0 h1 passed1 c.set.ensures.sound set3
    c.set.ensures.changes (c.set.ensures.marks there)

pub returns-clause-passed : goal.returns-clause-passed
returns-clause-passed g c =
    let m = g.B.BlockStore.blocks c.args.store.now in
    let t0 = c.args.tree.now in
    let h = c.requires.parts in
    let s = c.requires.stands in
    let m1 = g.B.BlockStore.blocks c.relocate_path.new.store in
    let t1 = c.relocate_path.new.self in
    let sound1 = c.relocate_path.ensures.sound in
    let entries1 = c.relocate_path.ensures.entries in
    let changes1 = c.relocate_path.ensures.changes in
    let m2 = g.B.BlockStore.blocks c.settle-new.new.store in
    let new = c.settle-new.result in
    let m3 = g.B.BlockStore.blocks c.set.new.store in
    let t2 = c.set.new.self in
    let h0 = g.B.BlockStore.heap c.args.store.now in
    let h1 = g.B.BlockStore.heap c.relocate_path.new.store in
    let passed1 = rw c.key-name.ensures at c.relocate_path.ensures.passed in
    let value = ap (value_at (entries_of m2 t1)) c.key-name.ensures
    ∙ settled_value m m1 t0 t1 c.args.key c.args.at h s sound1 entries1 changes1 m2 new c.settle-new.ensures.bytes c.settle-new.ensures.changes
    ∙ stands_value m t0 (parts_of m t0) c.args.key c.args.at h s in
    let there = c.set.ensures.there ∙ ap is_some value in
    let set3 = c.set.ensures.set there ∙ ap (λ k. with_entry (entries_of m2 t1) k new) c.key-name.ensures in
    subst (λ h2. PassesAll h2 (λ a. a == id_number c.args.key) (tree_marks m t0) (all_refs m t0) (all_refs m3 t2)) (sym c.set.ensures.slabs)
    (passes m m1 t0 t1 c.args.key c.args.at h s sound1 entries1 changes1 m2 new c.settle-new.ensures.bytes c.settle-new.ensures.changes m3 t2 h0 h1 passed1 c.set.ensures.sound set3
    c.set.ensures.changes (c.set.ensures.marks there) (g.B.BlockStore.heap c.settle-new.new.store) c.settle-new.ensures.calmer c.settle-new.ensures.calm)

pub returns-clause-count : goal.returns-clause-count
returns-clause-count g c =
    let m = g.B.BlockStore.blocks c.args.store.now in
    let t0 = c.args.tree.now in
    let h = c.requires.parts in
    let s = c.requires.stands in
    let size = c.len.ensures.len ∙ ap length (c.nodes_of.ensures ∙ ap (nodes_with (marks_of m t0)) c.key-name.ensures) in
    omega (arith, key_count m t0 c.args.key c.args.at h s, size)

pub returns-clause-calmer : goal.returns-clause-calmer
returns-clause-calmer g c =
    subst (λ h2. Calmer (g.B.BlockStore.heap c.args.store.now) h2) (sym c.set.ensures.slabs)
    (calmer_next (g.B.BlockStore.heap c.args.store.now) (g.B.BlockStore.heap c.relocate_path.new.store) (g.B.BlockStore.heap c.settle-new.new.store) c.relocate_path.ensures.calmer
    c.settle-new.ensures.calmer)
