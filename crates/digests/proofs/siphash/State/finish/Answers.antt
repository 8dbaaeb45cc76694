use Rattle.std.proofs.Common.{ap, bit_xor}
use Rattle.digests.specs.Siphash.{finished}
use Rattle.digests.proofs.siphash.State.finish.Goals as goal

pub returns : goal.returns
unfolding finished
returns c = ap (λ s. bit_xor (bit_xor (bit_xor s.v0 s.v1) s.v2) s.v3) c.rounds-last.ensures
