use Rattle.std.proofs.Common.{refl}
use Rattle.listpack.specs.Entry.{back_length}
use Rattle.listpack.proofs.back.back_lengths_at_limits.Goals as goal

pub returns : goal.returns
unfolding back_length
returns c = record {
  one = refl;
  two = refl;
  two_last = refl;
  three = refl;
  three_last = refl;
  four = refl;
  four_last = refl;
  five = refl;
}
