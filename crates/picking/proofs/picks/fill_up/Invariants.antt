use Rattle.std.proofs.Common.{ℕ, ◌<◌}
use Rattle.std.specs.List.{Contains}
use Rattle.blocks.specs.Blocks.{Blocks}
use Rattle.picking.specs.Sofar.{AreSoFar}
use Rattle.picking.proofs.picks.fill_up.Given as goal

abbrev pub invariant-loop-item : goal.invariant-loop-item
invariant-loop-item g l = record {
  so_far : AreSoFar (λ m. g.P.Items.is_sound m l.items) (λ m item. g.P.Items.has_item m l.items item) l.n l.picked.items.items l.picked.seen;
  passed : (m : Blocks) → g.P.Items.is_sound m l.items → (at : ℕ) → at < l.item → g.P.Items.has_item m l.items at → Contains l.picked.items.items at;
}
