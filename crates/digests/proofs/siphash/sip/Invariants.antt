use Rattle.std.proofs.Common.{◌≡◌}
use Rattle.digests.specs.Siphash.{compressed, padded, initial}
use Rattle.digests.proofs.siphash.sip.Given as goal

abbrev pub invariant-loop-word : goal.invariant-loop-word
invariant-loop-word l = l.state ≡ compressed l.c (padded l.bytes) l.word (initial l.k0 l.k1)
