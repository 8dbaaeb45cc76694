use Rattle.std.proofs.Common.{sym}
use Rattle.intset.proofs.Packed.{length_packed_in_packed}
use Rattle.intset.proofs.ints.Ints.len.Goals as goal

pub returns : goal.returns
returns c = record {
  value = rw (← c.self.view_is) (sym (length_packed_in_packed c.self.inside.width c.self.inside.count c.self.inside.packed.now));
  rising = rw (← c.self.view_is) c.self.invariant.rising;
}
