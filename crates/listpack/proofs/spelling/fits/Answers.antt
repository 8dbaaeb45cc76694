use Rattle.std.proofs.Common.{length, length-append, arith}
use Rattle.listpack.specs.Entry.{back_length}
use Rattle.listpack.specs.Writing.{spelling}
use Rattle.listpack.proofs.Writings.{element_short}
use Rattle.listpack.proofs.spelling.fits.Goals as goal

pub returns-then-element : goal.returns-then-element
returns-then-element c = (
  λ t. cc,
  λ h.
      let s = spelling c.args.element.now in
      let short = element_short c.args.element.now (omega (arith, h, length-append s (back_length (length s)))) in
      absurd (omega (arith, short)),
)
