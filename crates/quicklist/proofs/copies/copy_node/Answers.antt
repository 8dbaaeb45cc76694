use Rattle.std.proofs.Common.{◌≡◌, ℕ, List, ◌∙◌, sym, subst}
use Rattle.std.specs.Prelude.{IfOk}
use Rattle.blocks.specs.Blocks.{no_step}
use Rattle.quicklist.specs.Nodes.{IsPlacedOf, bytes_of}
use Rattle.quicklist.proofs.copies.copy_node.Goals as goal

pub returns-in_err-bytes-clause-served : goal.returns-in_err-bytes-clause-served
returns-in_err-bytes-clause-served g c = no_step

pub returns-clause-placed : goal.returns-clause-placed
returns-clause-placed g c =
    let m = g.B.BlockStore.blocks c.args.store.now in
    let same : c.deref.result.now ≡ bytes_of m c.args.node = c.deref.ensures.value ∙ c.in_ok-bytes.ensures.items ∙ sym c.bytes.ensures in
    subst (λ (bytes : List ℕ). IfOk c.place_piece.result (IsPlacedOf m (g.B.BlockStore.blocks c.place_piece.new.store) bytes)) same c.place_piece.ensures.placed
