use Rattle.std.proofs.Common.{arith, ap, sym, ◌∙◌, w64, of_z, to_z}
use Rattle.std.proofs.lemmas.Int.{to_z-of_z}
use Rattle.intset.proofs.Halves.{between_upper, between_lower, less_true, more_false}
use Rattle.intset.proofs.ints.Ints.search.Goals as goal

pub halves-preserved-then-number-n-2 : goal.halves-preserved-then-number-n-2
halves-preserved-then-number-n-2 c =
    let number = to_z-of_z w64 c.number-number.result (record { sfits = c.number-number.type_inv }) in
    between_upper _ _ _ _ _ c.number-number.result c.len-high.ensures.rising c.halves.invariant (omega arith) c.number-number.ensures
    (rw number at (less_true (to_z w64 (of_z w64 c.number-number.result)) (to_z w64 (of_z w64 c.args.n)) c.if-number-n-2.true))

pub halves-preserved : goal.halves-preserved
halves-preserved c =
    let number = to_z-of_z w64 c.number-number.result (record { sfits = c.number-number.type_inv }) in
    let n = to_z-of_z w64 c.args.n c.ranges.n in
    between_lower _ _ _ _ _ _ c.len-high.ensures.rising c.halves.invariant (omega arith) (omega arith) c.number-number.ensures
    (rw number at (more_false _ _ c.if-number-n-2.false (λ same. c.if-number-n.false (ap (of_z w64) (sym number ∙ same ∙ n)))))
