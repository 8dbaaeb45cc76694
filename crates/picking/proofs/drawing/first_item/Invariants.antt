use Rattle.std.proofs.Common.{ℕ, ◌<◌}
use Rattle.blocks.specs.Blocks.{Blocks}
use Rattle.picking.proofs.drawing.first_item.Given as goal

abbrev pub invariant-loop-item : goal.invariant-loop-item
invariant-loop-item g l = (m : Blocks) → g.P.Items.is_sound m l.items → (at : ℕ) → at < l.item → g.P.Items.has_item m l.items at → ⊥
