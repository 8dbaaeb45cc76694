use Rattle.std.proofs.Common.{ℕ, ◌∙◌, sym, subst, arith}
use Rattle.blocks.specs.Blocks.{no_step}
use Rattle.quicklist.specs.Chain.{elements}
use Rattle.quicklist.specs.Equal.{cleared, IsFrom}
use Rattle.quicklist.proofs.Going.{cleared_same}
use Rattle.quicklist.proofs.quick.Quick.remove_equal.Goals as goal

pub returns-then-many-eq0-clause-removed : goal.returns-then-many-eq0-clause-removed
returns-then-many-eq0-clause-removed g c =
    let xs = elements (g.B.BlockStore.blocks c.args.store.now) c.args.self.now in
    let text = c.args.text.now in
    let h = c.reach_of-many.ensures in
    let none = c.if-many-eq0.true in
    let same = cleared_same c.reach_of-many.result.1 0 xs (omega (arith, h.left, none)) in
    record {
      many_is = sym none ∙ h.many;
      taken = subst (λ ys. IsFrom c.args.end text 0 xs ys) same (subst (λ (n : ℕ). IsFrom c.args.end text n xs (cleared c.reach_of-many.result.1 0 xs)) none h.taken);
    }

pub returns-then-many-eq0-clause-served : goal.returns-then-many-eq0-clause-served
returns-then-many-eq0-clause-served g c = no_step

pub returns-clause-removed : goal.returns-clause-removed
returns-clause-removed g c =
    let xs = elements (g.B.BlockStore.blocks c.args.store.now) c.args.self.now in
    let h = c.reach_of-many.ensures in
    record {
      many_is = h.many;
      taken = subst (λ ys. IsFrom c.args.end c.args.text.now c.reach_of-many.result.0 xs ys) (sym c.in_ok-clear.ensures.changed.list_is) h.taken;
    }
