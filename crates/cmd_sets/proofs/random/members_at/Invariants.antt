use Rattle.std.proofs.Common.{◌≡◌, take}
use Rattle.set_object.specs.Items.{member_at}
use Rattle.picking.specs.Elements.{elements_of}
use Rattle.cmd_sets.proofs.random.members_at.Given as goal

abbrev pub invariant-loop-item : goal.invariant-loop-item
invariant-loop-item g l = l.names.items ≡ elements_of (λ at. member_at (g.B.BlockStore.blocks l.store) l.set at) (take l.item-index l.items)
