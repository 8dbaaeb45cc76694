use Rattle.std.proofs.Common.{refl}
use Rattle.rax_packed.proofs.Roots.{rootless_value}
use Rattle.rax_packed.proofs.Cuts.{no_value}
use Rattle.rax_packed.proofs.Sounds.{passed_sound}
use Rattle.rax_packed.proofs.tree.PackedTree.relocate_path.Goals as goal

pub unreachable-requires : goal.unreachable-requires
unreachable-requires g c = no_value (rootless_value (g.B.BlockStore.blocks c.args.store.now) c.args.self.now c.args.key.now c.in_default.is) c.requires.stands

pub returns-clause-sound : goal.returns-clause-sound
returns-clause-sound g c =
    let b = g.B.BlockStore.blocks c.args.store.now in
    let after = g.B.BlockStore.blocks c.relocate_below-passed.new.store in
    passed_sound b after (g.B.BlockStore.heap c.args.store.now) (g.B.BlockStore.heap c.relocate_below-passed.new.store) c.args.self.now _ c.in-Some.at c.relocate_below-passed.result.at
    c.args.key.now c.requires.sound c.in-Some.is
    (rw c.told-key at c.relocate_below-passed.ensures.becomes) (rw c.told-key at c.relocate_below-passed.ensures.passed) refl refl refl
