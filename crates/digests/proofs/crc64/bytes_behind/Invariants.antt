use Rattle.std.proofs.Common.{◌≡◌, take}
use Rattle.digests.specs.Crc.{crc_of}
use Rattle.digests.proofs.crc64.bytes_behind.Given as goal

abbrev pub invariant-loop-byte : goal.invariant-loop-byte
invariant-loop-byte l = l.state ≡ crc_of l.start (take l.byte-index l.bytes)
