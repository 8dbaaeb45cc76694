use Rattle.picking.specs.Sofar.{AreSoFar}
use Rattle.picking.proofs.picks.draw_apart.Given as goal

abbrev pub invariant-loop : goal.invariant-loop
invariant-loop g l = AreSoFar (λ m. g.P.Items.is_sound m l.items) (λ m item. g.P.Items.has_item m l.items item) l.n l.picked.items.items l.picked.seen
