use Rattle.std.proofs.Common.{ap, bit_xor, ℕ}
use Rattle.digests.specs.declared.siphash.State.{State}
use Rattle.digests.specs.Siphash.{absorbed}
use Rattle.digests.proofs.siphash.State.absorb.Goals as goal

-- a word mixed into the first of the four
with_first : ℕ → State → State
with_first word s = record s { v0 = bit_xor s.v0 word }

pub returns : goal.returns
unfolding absorbed with_first
returns c = ap (with_first c.args.word) c.rounds-mixed.ensures
