use Rattle.std.proofs.Common.{◌+◌, length, arith, inl, inr}
use Rattle.std.proofs.lemmas.Bool.{cases_lt}
use Rattle.listpack.specs.Pack.{texts}
use Rattle.listpack.proofs.Offsets.{length_texts, offset_end, offset_inside}
use Rattle.listpack.proofs.walks.Pack.next.Goals as goal

pub returns-then-to-self-clause-place : goal.returns-then-to-self-clause-place
returns-then-to-self-clause-place c = λ i t0.
    let bytes = c.args.self.now.bytes.now in
    let far = c.entry_len.ensures.next i t0 in
    elim (cases_lt (i + 1) (length (texts bytes))) [
      | inl more ↦ let inside = offset_inside bytes (i + 1) c.args.self.now.packed (omega (arith, length_texts bytes)) in absurd (omega (arith, far, inside))
      | inr none ↦ omega (arith, t0.0, none)
    ]

pub returns-else-to-self-clause-place : goal.returns-else-to-self-clause-place
returns-else-to-self-clause-place c = λ i t0.
    let bytes = c.args.self.now.bytes.now in
    let far = c.entry_len.ensures.next i t0 in
    elim (cases_lt (i + 1) (length (texts bytes))) [
      | inl more ↦ (more, omega (arith, far))
      | inr none ↦ let end = offset_end bytes (i + 1) c.args.self.now.packed (omega (arith, length_texts bytes)) in absurd (omega (arith, far, end))
    ]

pub returns-else-to-self-clause-offset : goal.returns-else-to-self-clause-offset
returns-else-to-self-clause-offset c = (c.requires.0 + 1, returns-else-to-self-clause-place c c.requires.0 c.requires.1)
