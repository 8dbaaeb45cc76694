use Rattle.std.proofs.Common.{◌≡◌, drop, bit_xor}
use Rattle.digests.specs.Crc.{crc_of}
use Rattle.digests.proofs.crc64.eight.Given as goal

abbrev pub invariant-loop-i : goal.invariant-loop-i
invariant-loop-i l = crc_of l.state l.bytes ≡ bit_xor l.sum (crc_of l.rest (drop l.i l.bytes))
