use Rattle.std.proofs.Common.{ℕ, ℤ, Option, IfOk, sym, subst}
use Rattle.picking.specs.Picks.{IsPick}
use Rattle.blocks.specs.Blocks.{Blocks}
use Rattle.picking.proofs.picks.pick.Goals as goal

pub returns-in-None : goal.returns-in-None
returns-in-None g c =
    let sound : Blocks → Type 0 = λ m. g.P.Items.is_sound m c.args.items.now in
    let has : Blocks → ℕ → Type 0 = λ m item. g.P.Items.has_item m c.args.items.now item in
    subst (λ (n : Option ℤ). IfOk c.pick_apart.result (λ picked. IsPick sound has n picked.items)) (sym c.in-None.is) c.pick_apart.ensures
