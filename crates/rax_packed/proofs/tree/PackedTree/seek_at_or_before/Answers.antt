use Rattle.std.proofs.Common.{◌∙◌, sym, ap, false}
use Rattle.std.specs.Option.{option_map}
use Rattle.rax_packed.specs.Maps.{root_entries}
use Rattle.rax_packed.specs.Packed.{nearest}
use Rattle.rax_packed.proofs.Roots.{rootless_nearest}
use Rattle.rax_packed.proofs.tree.PackedTree.seek_at_or_before.Goals as goal

pub returns-in-None : goal.returns-in-None
returns-in-None g c = sym (rootless_nearest false (g.B.BlockStore.blocks c.args.store.now) c.args.self.now c.args.key.now c.in-None.is)

pub returns-in-Some : goal.returns-in-Some
returns-in-Some g c = c.seek_below.ensures ∙ ap (λ es. option_map (λ e. e.key) (nearest false es c.args.key.now)) (sym (ap (root_entries (g.B.BlockStore.blocks c.args.store.now)) c.in-Some.is))
