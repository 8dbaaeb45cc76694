use Rattle.listpack.proofs.Laws.{pack_or_fault}
use Rattle.listpack.proofs.checking.check.Goals as goal

pub returns-in-Err-clause-ok : goal.returns-in-Err-clause-ok
returns-in-Err-clause-ok c = (λ f. let never : ⊥ = cc in absurd never, λ p. absurd (pack_or_fault c.args.bytes.now c.in-Err.fault p c.in-Err.ensures.fault))
