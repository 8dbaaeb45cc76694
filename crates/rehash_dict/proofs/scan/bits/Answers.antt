use Rattle.std.proofs.Common.{◌^◌, ◌∙◌, length, sym, ap, arith}
use Rattle.rehash_dict.specs.Sides.{side_rows}
use Rattle.rehash_dict.proofs.Scans.{width_of, log_is}
use Rattle.rehash_dict.proofs.scan.bits.Goals as goal

pub returns-clause-bits : goal.returns-clause-bits
returns-clause-bits g c = log_is (length (side_rows c.args.side c.args.chains.now)) c.ilog2.result c.requires.size (omega (arith, c.buckets.ensures, c.ilog2.ensures.power_le))
    (omega (arith, c.buckets.ensures, c.ilog2.ensures.next_power_gt))

pub returns-clause-power : goal.returns-clause-power
returns-clause-power g c = ap (λ b. 2 ^ b) (returns-clause-bits g c) ∙ sym (width_of (length (side_rows c.args.side c.args.chains.now)) c.requires.size c.requires.table).power

pub returns-clause-many : goal.returns-clause-many
returns-clause-many g c = omega (arith, returns-clause-bits g c, (width_of (length (side_rows c.args.side c.args.chains.now)) c.requires.size c.requires.table).many)
