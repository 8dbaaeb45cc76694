use Rattle.std.proofs.Common.{refl, sym, ap, ◌∙◌}
use Rattle.blocks.proofs.Serve.{served_same}
use Rattle.rax_packed.proofs.Roots.{rootless_value, rootless_without, without_missing}
use Rattle.rax_packed.specs.Maps.{root_entries, entries_of}
use Rattle.rax_packed.specs.Packed.{value_at}
use Rattle.rax_packed.proofs.tree.PackedTree.remove.Goals as goal

pub returns-in_default-clause-old : goal.returns-in_default-clause-old
returns-in_default-clause-old g c = sym (rootless_value _ c.args.self.now c.args.key.now c.in_default.is)

pub returns-in_default-clause-removed : goal.returns-in_default-clause-removed
returns-in_default-clause-removed g c = rootless_without _ c.args.self.now c.args.key.now c.in_default.is

pub returns-in_default-clause-served : goal.returns-in_default-clause-served
returns-in_default-clause-served g c = served_same _ _ refl

pub returns-in_default-find_below-clause-removed : goal.returns-in_default-find_below-clause-removed
returns-in_default-find_below-clause-removed g c =
    let b = g.B.BlockStore.blocks c.args.store.now in
    let root = ap (root_entries b) c.in-Some.is in
    sym (without_missing c.args.key.now (entries_of b c.args.self.now) (ap (λ es. value_at es c.args.key.now) root ∙ sym (rw c.told-key at c.find_below.ensures) ∙ c.in_default-find_below.is))

pub returns-in_default-find_below-clause-served : goal.returns-in_default-find_below-clause-served
returns-in_default-find_below-clause-served g c = served_same _ _ refl
