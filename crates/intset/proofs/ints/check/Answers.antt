use Rattle.std.proofs.Common.{arith, refl}
use Rattle.intset.specs.Intset.{IsWidth}
use Rattle.intset.proofs.Packed.{numbers_of_is, packed_small}
use Rattle.intset.proofs.ints.check.Goals as goal

pub overflow_mul-width : goal.overflow_mul-width
overflow_mul-width c =
    let sized : IsWidth c.told_width.result = c.if-not-is_width.ensures.0 refl in
    let sized' : IsWidth c.told_width-width.result = rw (c.told_width.ensures, ← c.told_width-width.ensures) at sized in
    omega (arith, packed_small c.told_width-width.result c.told_count.result sized')

pub returns-then-not-is_rising : goal.returns-then-not-is_rising
returns-then-not-is_rising c =
    let sized : IsWidth c.told_width.result = c.if-not-is_width.ensures.0 refl in (
      record { told = c.if-bytes-lt4.false; width = rw c.told_width.ensures at sized },
      (rw (← c.told_width-width.ensures, ← c.told_count.ensures.value) (omega arith)),
      (λ rising. let t = c.is_rising.ensures.1 (rw (c.told_width-width.ensures, c.told_count-count.ensures.value, c.packed_part-packed.ensures, ← numbers_of_is c.args.bytes.now) rising) in
          absurd (cc)),
    )

pub returns : goal.returns
returns c =
    let sized : IsWidth c.told_width.result = c.if-not-is_width.ensures.0 refl in
    let rising = c.is_rising.ensures.0 c.if-not-is_rising.false in
    record {
      width = record { told = c.if-bytes-lt4.false; width = rw c.told_width.ensures at sized };
      length = rw (← c.told_width-width.ensures, ← c.told_count.ensures.value) (omega arith);
      listed = rw (numbers_of_is c.args.bytes.now, ← c.told_width-width.ensures, ← c.told_count-count.ensures.value, ← c.packed_part-packed.ensures) refl;
      rising = rising;
    }
