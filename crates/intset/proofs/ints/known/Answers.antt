use Rattle.std.proofs.Common.{arith, refl}
use Rattle.std.proofs.lemmas.List.{length-drop}
use Rattle.intset.proofs.Packed.{numbers_of_is}
use Rattle.intset.proofs.ints.known.Goals as goal

pub invariant_of-result : goal.invariant_of-result
invariant_of-result c =
    rw (c.told_width.ensures, c.told_count.ensures.value, c.packed_part.ensures) (record {
      sized = c.requires.width.width;
      long = let e = length-drop 8 c.args.bytes.now in omega (arith, e);
      rising = rw (← numbers_of_is c.args.bytes.now) c.requires.rising;
    })

pub returns : goal.returns
returns c = rw (numbers_of_is c.args.bytes.now, ← c.told_width.ensures, ← c.told_count.ensures.value, ← c.packed_part.ensures) refl
