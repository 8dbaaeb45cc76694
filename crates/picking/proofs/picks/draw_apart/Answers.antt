use Rattle.std.proofs.Common.{ℕ, sym, subst, arith}
use Rattle.blocks.specs.Blocks.{Blocks}
use Rattle.picking.specs.declared.picks.Picked.{Picked}
use Rattle.picking.specs.Sofar.{AreSoFar}
use Rattle.picking.proofs.Adding.{one_more}
use Rattle.picking.proofs.picks.draw_apart.Goals.{in-Some+in_ok-add-in-Some, in-None}
use Rattle.picking.proofs.picks.draw_apart.Goals as goal

pub loop-preserved : goal.loop-preserved
loop-preserved g c =
    let sound : Blocks → Type 0 = λ m. g.P.Items.is_sound m c.args.items.now in
    let has : Blocks → ℕ → Type 0 = λ m item. g.P.Items.has_item m c.args.items.now item in
    elim c.match-branch-2.branch [
      | in-Some+in_ok-add-in-Some w ↦ subst (λ (p : Picked). AreSoFar sound has c.args.n p.items.items p.seen) (sym w.picked-is)
          (one_more sound has c.args.n _ _ w.in-Some.item _ _ w.in_ok-add-in-Some.ensures c.loop.invariant (omega (arith, c.if-len-n.false, c.len.ensures)) (rw w.in-Some.is at c.in_ok-item.ensures))
      | in-None w ↦ subst (λ (p : Picked). AreSoFar sound has c.args.n p.items.items p.seen) (sym w.picked-is) c.loop.invariant
    ]
