use Rattle.std.proofs.Common.{refl, sym, ◌∙◌}
use Rattle.rax_packed.proofs.Roots.{rootless_value, first_sound, first_entries, first_changes}
use Rattle.rax_packed.proofs.Sounds.{set_sound}
use Rattle.rax_packed.specs.Nodes.{Leaf}
use Rattle.rax_packed.proofs.Exactly.{exact_same, exact_put}
use Rattle.rax_packed.proofs.tree.PackedTree.insert.Goals as goal

pub returns-in_default-clause-sound : goal.returns-in_default-clause-sound
returns-in_default-clause-sound g c =
    first_sound (g.B.BlockStore.blocks c.args.store.now) (g.B.BlockStore.blocks c.put_block.new.store) c.args.self.now c.in_ok-put_block.field-0 c.args.key.now c.args.value
    c.as_slice.result.now c.in_default.is c.in_ok-put_block.ensures.placed
    (c.as_slice.ensures.value ∙ c.leaf_bytes.ensures.bytes) c.told-key c.leaf_bytes.ensures.fits c.in_ok-put_block.ensures.changes _ refl refl refl

pub returns-in_default-clause-old : goal.returns-in_default-clause-old
returns-in_default-clause-old g c = sym (rootless_value _ c.args.self.now c.args.key.now c.in_default.is)

pub returns-in_default-clause-inserted : goal.returns-in_default-clause-inserted
returns-in_default-clause-inserted g c =
    first_entries (g.B.BlockStore.blocks c.args.store.now) (g.B.BlockStore.blocks c.put_block.new.store) c.args.self.now c.in_ok-put_block.field-0 c.args.key.now c.args.value
    c.as_slice.result.now c.in_default.is c.in_ok-put_block.ensures.placed
    (c.as_slice.ensures.value ∙ c.leaf_bytes.ensures.bytes) c.told-key c.leaf_bytes.ensures.fits c.in_ok-put_block.ensures.changes

pub returns-in_default-clause-changes : goal.returns-in_default-clause-changes
returns-in_default-clause-changes g c =
    first_changes (g.B.BlockStore.blocks c.args.store.now) (g.B.BlockStore.blocks c.put_block.new.store) c.args.self.now c.in_ok-put_block.field-0 c.args.key.now c.args.value
    c.as_slice.result.now c.in_default.is c.in_ok-put_block.ensures.placed
    (c.as_slice.ensures.value ∙ c.leaf_bytes.ensures.bytes) c.told-key c.leaf_bytes.ensures.fits c.in_ok-put_block.ensures.changes

pub returns-in-Some-set_below-clause-sound : goal.returns-in-Some-set_below-clause-sound
returns-in-Some-set_below-clause-sound g c =
    set_sound (g.B.BlockStore.blocks c.args.store.now) (g.B.BlockStore.blocks c.set_below.new.store) c.args.self.now c.in-Some.at c.args.key.now c.args.value c.requires c.in-Some.is
    (rw c.told-key at c.in-Some-set_below.ensures.set) c.set_below.ensures.stays (rw c.told-key at c.in-Some-set_below.ensures.keys)

pub returns-in_default-clause-exact : goal.returns-in_default-clause-exact
returns-in_default-clause-exact g c =
    let b = g.B.BlockStore.blocks c.args.store.now in
    exact_put b b (g.B.BlockStore.blocks c.put_block.new.store) c.in_ok-put_block.field-0 c.as_slice.result.now (Leaf c.args.key.now c.args.value) (exact_same b)
    c.in_ok-put_block.ensures.placed (c.as_slice.ensures.value ∙ c.leaf_bytes.ensures.bytes)
