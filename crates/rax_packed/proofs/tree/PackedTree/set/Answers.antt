use Rattle.std.proofs.Common.{is_some, refl, sym, ap}
use Rattle.blocks.proofs.Serve.{served_same}
use Rattle.rax_packed.proofs.Roots.{rootless_value}
use Rattle.rax_packed.proofs.Sounds.{set_sound}
use Rattle.rax_packed.proofs.tree.PackedTree.set.Goals as goal

pub returns-in-None-clause-there : goal.returns-in-None-clause-there
returns-in-None-clause-there g c = sym (ap is_some (rootless_value _ c.args.self.now c.args.key.now c.in-None.is))

pub returns-in-None-clause-served : goal.returns-in-None-clause-served
returns-in-None-clause-served g c = served_same _ _ refl

pub returns-in-Some-set_below-clause-sound : goal.returns-in-Some-set_below-clause-sound
returns-in-Some-set_below-clause-sound g c =
    set_sound (g.B.BlockStore.blocks c.args.store.now) (g.B.BlockStore.blocks c.set_below.new.store) c.args.self.now c.in-Some.at c.args.key.now c.args.value c.requires c.in-Some.is
    (rw c.told-key at c.in-Some-set_below.ensures.set) c.set_below.ensures.stays (rw c.told-key at c.in-Some-set_below.ensures.keys)
