use Rattle.std.proofs.Common.{◌≡◌, ◌-◌, length, Some, None, sym, subst, refl, arith, rules}
use Rattle.blocks.specs.declared.Moved.{Moved}
use Rattle.quicklist.specs.Nodes.{refs_of}
use Rattle.quicklist.specs.Chain.{Chain, IsPassed, refs}
use Rattle.quicklist.proofs.Moving.{passed_by}
use Rattle.quicklist.proofs.quick.Quick.relocate_part.Goals as goal
use Rattle.quicklist.proofs.quick.Quick.relocate_part.Goals.{then-end-count, else-end-count}

pub returns-clause-passed : goal.returns-clause-passed
returns-clause-passed g c =
    let m = g.B.BlockStore.blocks c.args.store.now in
    let n = g.B.BlockStore.blocks c.settle_nodes.new.store in
    let heap = g.B.BlockStore.heap c.settle_nodes.new.store in
    let old = c.self.inside.nodes.items in
    let new = c.settle_nodes.new.nodes.items in
    let end = c.min-end.result in
    let count : c.len-count.result ≡ length old = search rules in
    let done = c.settle_nodes.ensures in
    let passed : IsPassed heap (refs_of old) (refs_of new) c.args.from c.args.room c.if-end-count.result = elim c.if-end-count.branch [
      | then-end-count w ↦
          let far = w.if-end-count.true in
          subst (λ (a : Moved). IsPassed heap (refs_of old) (refs_of new) c.args.from c.args.room a) (sym w.result-is)
          (passed_by heap m n old new c.args.from c.args.room end (end - c.args.from) (Some end) done.settled done.calm refl (omega arith) (omega arith) refl
          (omega arith, omega arith, omega (arith, count, far)))
      | else-end-count w ↦
          let all = w.if-end-count.false in
          subst (λ (a : Moved). IsPassed heap (refs_of old) (refs_of new) c.args.from c.args.room a) (sym w.result-is)
          (passed_by heap m n old new c.args.from c.args.room end (end - c.args.from) None done.settled done.calm refl (omega arith) (omega arith) (omega (arith, count, all)) tt)
    ] in
    subst (λ (v : Chain). IsPassed heap (refs v) (refs_of new) c.args.from c.args.room c.if-end-count.result) c.self.view_is passed
