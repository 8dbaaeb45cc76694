use Rattle.std.proofs.Common.{◌≡◌, ◌∙◌, ◌-◌, ap, arith}
use Rattle.rax_packed.specs.declared.pass.Passed.{Passed}
use Rattle.rax_packed.specs.Costs.{Going, costs_of, costs_from, going, pass_over, begun}
use Rattle.rax_packed.proofs.Passes.{left_upto, reached_some, reached_none}
use Rattle.rax_packed.proofs.tree.PackedTree.pass_from.Goals as goal
use Rattle.rax_packed.proofs.tree.PackedTree.pass_from.Goals.{in-None, in-Some}

pub overflow_sub-result : goal.overflow_sub-result
overflow_sub-result g c =
    let b = g.B.BlockStore.blocks c.args.store.now in
    let keys = costs_from (costs_of b c.args.self.now) c.args.from.now in
    let end : going c.match-self.pass ≡ pass_over (begun c.args.room) keys = elim c.match-self.branch [
      | in-None w ↦ ap going w.pass-is ∙ reached_none b c.args.self.now c.args.from.now c.args.room w.in-None.is
      | in-Some w ↦ ap going w.pass-is ∙ reached_some b c.args.self.now w.in-Some.at c.args.from.now c.args.room (going w.pass_below.new.pass) w.in-Some.is w.pass_below.ensures
    ] in
    omega (arith, ap (λ (p : Going). p.left) end, left_upto (begun c.args.room) keys)

pub returns : goal.returns
returns g c =
    let b = g.B.BlockStore.blocks c.args.store.now in
    let keys = costs_from (costs_of b c.args.self.now) c.args.from.now in
    let end : going c.match-self.pass ≡ pass_over (begun c.args.room) keys = elim c.match-self.branch [
      | in-None w ↦ ap going w.pass-is ∙ reached_none b c.args.self.now c.args.from.now c.args.room w.in-None.is
      | in-Some w ↦ ap going w.pass-is ∙ reached_some b c.args.self.now w.in-Some.at c.args.from.now c.args.room (going w.pass_below.new.pass) w.in-Some.is w.pass_below.ensures
    ] in
    let answer : Going → Passed = λ p. record { used = c.args.room - p.left; next = p.next } in
    ap answer end
