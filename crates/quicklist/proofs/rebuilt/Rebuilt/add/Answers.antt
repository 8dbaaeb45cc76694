use Rattle.std.proofs.Common.{List, ℕ, sym, subst}
use Rattle.blocks.specs.Blocks.{no_step}
use Rattle.quicklist.specs.declared.clearing.Left.{Left}
use Rattle.quicklist.specs.Nodes.{IsPlacedOf}
use Rattle.quicklist.specs.Equal.{IsAdded}
use Rattle.quicklist.proofs.rebuilt.Rebuilt.add.Goals as goal

pub returns-in-Whole-clause-served : goal.returns-in-Whole-clause-served
returns-in-Whole-clause-served g c = no_step

pub returns-in-Nothing-clause-served : goal.returns-in-Nothing-clause-served
returns-in-Nothing-clause-served g c = no_step

pub returns-in_ok-fresh-in-Part-clause-added : goal.returns-in_ok-fresh-in-Part-clause-added
returns-in_ok-fresh-in-Part-clause-added g c =
    let m = g.B.BlockStore.blocks c.args.store.now in
    let n = g.B.BlockStore.blocks c.place_piece.new.store in
    let h = c.in_ok-fresh-in-Part.ensures in
    let one = c.push_back_reserved-in-Part.ensures in
    let two = c.push_back_reserved-in-Part-2.ensures in
    let three' = c.push_back_reserved-in-Part-3.ensures in
    subst
    (λ (l : Left). IsAdded m n c.args.node l c.args.self.now
    (record { nodes = c.push_back_reserved-in-Part.new.self; placed = c.push_back_reserved-in-Part-2.new.self; replaced = c.push_back_reserved-in-Part-3.new.self })) (sym c.in-Part.is) (
      c.in_ok-fresh-in-Part.fresh,
      record { placed = subst (λ (bytes : List ℕ). IsPlacedOf m n bytes c.in_ok-fresh-in-Part.fresh) c.deref.ensures.value h.placed; counted = h.count; container = h.container },
      record { nodes_is = one.items; placed_is = two.items; replaced_is = three'.items; nodes_room = one.capacity; placed_room = two.capacity; replaced_room = three'.capacity },
    )
