use Rattle.std.proofs.Common.{ℕ, length, ◌+◌, ◌<◌, sym, subst, arith}
use Rattle.std.specs.List.{Contains}
use Rattle.blocks.specs.Blocks.{Blocks}
use Rattle.picking.specs.declared.picks.Picked.{Picked}
use Rattle.picking.specs.Sofar.{AreSoFar}
use Rattle.picking.proofs.Adding.{one_more, old_stays, item_there, passed_more}
use Rattle.picking.proofs.picks.fill_up.Goals.{then-is_item+in_ok-add, else-is_item}
use Rattle.picking.proofs.picks.fill_up.Goals as goal

pub loop-item-preserved : goal.loop-item-preserved
loop-item-preserved g c =
    let sound : Blocks → Type 0 = λ m. g.P.Items.is_sound m c.args.items.now in
    let has : Blocks → ℕ → Type 0 = λ m item. g.P.Items.has_item m c.args.items.now item in
    let s = c.loop-item.invariant.so_far in
    let room : length c.loop-item.picked.items.items < c.args.n = omega (arith, c.if-len-n.false, c.len.ensures) in
    let both : AreSoFar sound has c.args.n c.if-is_item.picked.items.items c.if-is_item.picked.seen
    × ((m : Blocks) → sound m → (at : ℕ) → at < c.loop-item.item + 1 → has m at → Contains c.if-is_item.picked.items.items at) =
    elim c.if-is_item.branch [
      | then-is_item+in_ok-add w ↦ subst
          (λ (p : Picked). AreSoFar sound has c.args.n p.items.items p.seen × ((m : Blocks) → sound m → (at : ℕ) → at < c.loop-item.item + 1 → has m at → Contains p.items.items at))
          (sym w.picked-is) (
            one_more sound has c.args.n _ _ c.loop-item.item _ _ w.in_ok-add.ensures s room (λ m h. (c.is_item.ensures m h).0 w.if-is_item.true),
            passed_more sound has c.loop-item.item _ _ c.loop-item.invariant.passed (old_stays sound has c.args.n _ _ c.loop-item.item _ _ w.in_ok-add.ensures s)
                (λ m h there. item_there sound has c.args.n _ _ c.loop-item.item _ _ w.in_ok-add.ensures s),
          )
      | else-is_item w ↦ subst
          (λ (p : Picked). AreSoFar sound has c.args.n p.items.items p.seen × ((m : Blocks) → sound m → (at : ℕ) → at < c.loop-item.item + 1 → has m at → Contains p.items.items at))
          (sym w.picked-is) (
            s,
            passed_more sound has c.loop-item.item _ _ c.loop-item.invariant.passed (λ q h. h) (λ m h there. (let is = (c.is_item.ensures m h).1 there in let not = w.if-is_item.false in absurd cc)),
          )
    ] in
    record { so_far = both.0; passed = both.1 }
