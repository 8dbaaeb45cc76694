use Rattle.std.proofs.Common.{◌≡◌, ◌*◌, take}
use Rattle.digests.specs.Crc.{crc_of}
use Rattle.digests.proofs.crc64.rows.Given as goal

abbrev pub invariant-loop-i : goal.invariant-loop-i
invariant-loop-i l = l.state ≡ crc_of l.start (take (8 * l.i) l.bytes)
