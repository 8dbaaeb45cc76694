use Rattle.std.proofs.Common.{◌≡◌, ℕ, length}
use Rattle.std.specs.List.{Contains}
use Rattle.picking.specs.Picks.{IsThere}
use Rattle.picking.proofs.picks.pick_often.Given as goal

abbrev pub invariant-loop : goal.invariant-loop
invariant-loop g l = record {
  many : length l.drawn.items ≡ l.counter;
  real : (at : ℕ) → Contains l.drawn.items at → IsThere (λ m. g.P.Items.is_sound m l.items) (λ m item. g.P.Items.has_item m l.items item) at;
}
