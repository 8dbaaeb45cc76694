use Rattle.std.proofs.Common.{◌≡◌, arith, ap, inl, inr}
use Rattle.std.proofs.lemmas.Bool.{cases_lt}
use Rattle.listpack.specs.Pack.{offset_of}
use Rattle.listpack.proofs.Offsets.{offset_above}
use Rattle.listpack.proofs.walks.Pack.prev.Goals as goal

pub returns-then-at-eq6-clause-place : goal.returns-then-at-eq6-clause-place
returns-then-at-eq6-clause-place c = λ i t0. elim (cases_lt 0 i) [
  | inl some ↦ let far = offset_above c.args.self.now.bytes.now i c.args.self.now.packed some (omega (arith, t0.0)) in absurd (omega (arith, far, t0.1))
  | inr none ↦ omega arith
]

pub returns-else-at-eq6-clause-place : goal.returns-else-at-eq6-clause-place
returns-else-at-eq6-clause-place c = λ i t0. elim (cases_lt 0 i) [
  | inl some ↦ (some, (omega (arith, t0.0, some), c.before-else-at-eq6.ensures i some (omega (arith, t0.0)) t0.1))
  | inr none ↦
      let zero_th : i ≡ 0 = omega arith in
      let far = ap (offset_of c.args.self.now.bytes.now) zero_th in
      absurd (omega (arith, far, t0.1))
]
