use Rattle.std.proofs.Common.{◌≡◌, true, false}
use Rattle.rehash_dict.specs.Chains.{chain_left}
use Rattle.rehash_dict.specs.Scan.{after_in}
use Rattle.rehash_dict.proofs.scan.next_in.Given as goal

abbrev pub invariant-loop-other : goal.invariant-loop-other
invariant-loop-other g l = record {
  behind : l.met ≡ true → after_in l.at (chain_left l.initial.other-iterator) ≡ chain_left l.other-iterator;
  before : l.met ≡ false → after_in l.at (chain_left l.initial.other-iterator) ≡ after_in l.at (chain_left l.other-iterator);
}
