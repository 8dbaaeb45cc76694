use Rattle.std.proofs.Common.{arith}
use Rattle.listpack.proofs.Laws.{is_pack, from_parts}
use Rattle.listpack.proofs.checking.check_rules.Goals as goal
use Rattle.listpack.proofs.checking.check_rules.Goals.{else-told-via-then-told+else-from-count, else-told-via-else-told}

pub returns-clause-pack : goal.returns-clause-pack
returns-clause-pack c =
    let ok = c.in_ok-count.ensures.ok in
    is_pack c.args.bytes.now ok.0 (from_parts c.args.bytes.now ok.0 (omega arith) (omega arith) ok.1 (omega arith) (λ known.
    elim c.else-told.branch [
      | else-told-via-then-told+else-from-count w ↦ omega (arith, ok.2)
      | else-told-via-else-told w ↦ absurd (omega (arith, known))
    ]))
