use Rattle.std.proofs.Common.{◌≡◌, ◌∙◌, List, [], None, ◌++◌, refl, ap, subst}
use Rattle.blocks.specs.declared.BlockRef.{BlockRef}
use Rattle.blocks.specs.Blocks.{Changes}
use Rattle.blocks.proofs.Serve.{served_same, served_then}
use Rattle.rax_packed.specs.declared.tree.PackedTree.{PackedTree}
use Rattle.rax_packed.specs.Maps.{entries_of, refs_of as tree_refs, IsSound}
use Rattle.blocks.specs.Blocks.{Blocks}
use Rattle.stream_object.specs.Parts.{parts_of, all_refs}
use Rattle.stream_object.specs.declared.stream.Stream.{Stream as Log}
use Rattle.stream_object.proofs.Clears.{exchanges_then, all_released}
use Rattle.stream_object.proofs.Copies.{copy_stream, copy_value, copy_changes, nothing_changed}
use Rattle.stream_object.proofs.Parts.{blank, refs_are}
use Rattle.stream_object.proofs.stream.Stream.copy.Goals as goal

no_refs : (m : Blocks) (tree : PackedTree) → IsSound m tree → entries_of m tree ≡ [] → tree_refs m tree ≡ [] → all_refs m tree ≡ []
no_refs m tree sound none refs = refs_are m tree [] (blank m tree sound none refs) ∙ ap (λ (rs : List BlockRef). rs ++ []) refs

pub returns-in_err-groups-clause-served : goal.returns-in_err-groups-clause-served
returns-in_err-groups-clause-served g c = served_same _ _ refl

pub copy_nodes-requires-clause-blank : goal.copy_nodes-requires-clause-blank
copy_nodes-requires-clause-blank g c =
    let m = g.B.BlockStore.blocks c.args.store.now in
    blank m c.new-tree.result (c.new-tree.ensures.sound m) (c.new-tree.ensures.entries m) (c.new-tree.ensures.refs m)

pub copy_nodes-requires-clause-none : goal.copy_nodes-requires-clause-none
copy_nodes-requires-clause-none g c =
    let m = g.B.BlockStore.blocks c.args.store.now in
    no_refs m c.new-tree.result (c.new-tree.ensures.sound m) (c.new-tree.ensures.entries m) (c.new-tree.ensures.refs m)

pub returns-in-Err-clause-served : goal.returns-in-Err-clause-served
returns-in-Err-clause-served g c = served_then _ _ _ (served_then _ _ _ c.copy_nodes.ensures.served c.clear.ensures.served) c.release.ensures.served

pub returns-in-Err-clause-err_blocks : goal.returns-in-Err-clause-err_blocks
returns-in-Err-clause-err_blocks g c =
    let m = g.B.BlockStore.blocks c.args.store.now in
    let mid = g.B.BlockStore.blocks c.copy_nodes.new.store in
    let cleared = g.B.BlockStore.blocks c.clear.new.store in
    let after = g.B.BlockStore.blocks c.release.new.store in
    let none = no_refs m c.new-tree.result (c.new-tree.ensures.sound m) (c.new-tree.ensures.entries m) (c.new-tree.ensures.refs m) in
    let x = exchanges_then m mid cleared c.new-tree.result c.copy_nodes.new.tree c.clear.new.tree (parts_of mid c.copy_nodes.new.tree) [] c.copy_nodes.ensures.made c.clear.ensures.cleared in
    nothing_changed m after (subst (λ (rs : List BlockRef). Changes m after rs []) none (all_released m cleared after c.new-tree.result c.clear.new.tree x c.release.ensures.changes))

pub returns-clause-is_stream : goal.returns-clause-is_stream
returns-clause-is_stream g c =
    let m = g.B.BlockStore.blocks c.args.store.now in
    let after = g.B.BlockStore.blocks c.copy_nodes.new.store in
    let s = c.args.self.now in
    let copy : Log = record s { tree = c.copy_nodes.new.tree; groups = c.in_ok-groups.groups; tail = None } in
    let none = no_refs m c.new-tree.result (c.new-tree.ensures.sound m) (c.new-tree.ensures.entries m) (c.new-tree.ensures.refs m) in
    copy_stream m after s copy c.requires c.new-tree.result none c.in_default.ensures.made c.in_default.ensures.copied refl refl refl

pub returns-clause-value : goal.returns-clause-value
returns-clause-value g c =
    let m = g.B.BlockStore.blocks c.args.store.now in
    let after = g.B.BlockStore.blocks c.copy_nodes.new.store in
    let s = c.args.self.now in
    let copy : Log = record s { tree = c.copy_nodes.new.tree; groups = c.in_ok-groups.groups; tail = None } in
    let none = no_refs m c.new-tree.result (c.new-tree.ensures.sound m) (c.new-tree.ensures.entries m) (c.new-tree.ensures.refs m) in
    copy_value m after s copy c.requires c.new-tree.result none c.in_default.ensures.made c.in_default.ensures.copied refl refl refl refl refl c.in_ok-groups.ensures

pub returns-clause-changes : goal.returns-clause-changes
returns-clause-changes g c =
    let m = g.B.BlockStore.blocks c.args.store.now in
    let after = g.B.BlockStore.blocks c.copy_nodes.new.store in
    let s = c.args.self.now in
    let copy : Log = record s { tree = c.copy_nodes.new.tree; groups = c.in_ok-groups.groups; tail = None } in
    let none = no_refs m c.new-tree.result (c.new-tree.ensures.sound m) (c.new-tree.ensures.entries m) (c.new-tree.ensures.refs m) in
    copy_changes m after s copy c.requires c.new-tree.result none c.in_default.ensures.made c.in_default.ensures.copied refl refl refl
