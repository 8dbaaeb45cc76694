use Rattle.std.proofs.Common.{List, [], ℕ, refl, sym, subst}
use Rattle.blocks.proofs.Serve.{served_same}
use Rattle.stream_object.specs.Node.{IsGrown}
use Rattle.stream_object.proofs.Grows.{comes_grows}
use Rattle.stream_object.proofs.growing.put_alone.Goals as goal

pub returns-clause-grows : goal.returns-clause-grows
returns-clause-grows g c =
    let m = g.B.BlockStore.blocks c.args.store.now in
    let after = g.B.BlockStore.blocks c.put_last.new.store in
    let grown = subst (λ (b : List ℕ). IsGrown c.args.id [] b c.args.id c.args.pairs.now) (sym c.deref.ensures.value) c.in_ok-pack.ensures in
    comes_grows m after c.args.tree.now c.put_last.new.tree c.args.id c.args.pairs.now c.deref.result.now c.in_ok-at.at c.requires.parts c.requires.below grown c.in_ok-at.ensures.placed

pub returns-in_err-pack-clause-served : goal.returns-in_err-pack-clause-served
returns-in_err-pack-clause-served g c = served_same _ _ refl
