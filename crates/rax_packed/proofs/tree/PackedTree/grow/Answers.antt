use Rattle.std.proofs.Common.{◌∙◌, refl, sym, ap}
use Rattle.blocks.proofs.Serve.{served_same}
use Rattle.rax_packed.specs.Maps.{root_entries}
use Rattle.rax_packed.specs.Packed.{value_at}
use Rattle.rax_packed.proofs.Sounds.{grown_sound}
use Rattle.rax_packed.proofs.tree.PackedTree.grow.Goals as goal

pub returns-in_default-clause-served : goal.returns-in_default-clause-served
returns-in_default-clause-served g c = served_same _ _ refl

pub returns-then-self-clause-served : goal.returns-then-self-clause-served
returns-then-self-clause-served g c = served_same _ _ refl

pub returns-clause-sound : goal.returns-clause-sound
returns-clause-sound g c =
    let b = g.B.BlockStore.blocks c.args.store.now in
    let after = g.B.BlockStore.blocks c.add_below.new.store in
    let missing = ap (λ es. value_at es c.args.key.now) (sym (ap (root_entries b) c.requires.root)) ∙ c.requires.missing in
    grown_sound b after c.args.self.now _ c.args.at c.in_ok-grown.grown.at c.args.key.now c.args.value c.in_ok-grown.grown.more c.requires.sound c.requires.root missing
    (rw c.told-key at c.in_ok-grown.ensures.added) (rw c.told-key at c.in_ok-grown.ensures.more) refl refl c.in-Some.ensures.1
