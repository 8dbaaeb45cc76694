use Rattle.std.proofs.Common.{◌*◌, ◌-◌, ◌%◌, ◌∙◌, ap, arith}
use Rattle.std.proofs.lemmas.Nat.{one_shl}
use Rattle.rehash_dict.specs.Scan.{bits_of}
use Rattle.rehash_dict.proofs.Scans.{width_of}
use Rattle.rehash_dict.proofs.Cursors.{last_cursor, next_cursor}
use Rattle.rehash_dict.proofs.scan.behind.Goals as goal

pub returns-then-zeros-eq0 : goal.returns-then-zeros-eq0
returns-then-zeros-eq0 c =
    let w = width_of c.args.buckets c.requires.size c.requires.table in
    last_cursor (bits_of c.args.buckets) c.args.cursor c.bucket_of.result w.few (c.bucket_of.ensures ∙ ap (λ n. c.args.cursor % n) w.power) (omega (arith, w.power, c.if-zeros-eq0.true))

pub returns : goal.returns
returns c =
    let w = width_of c.args.buckets c.requires.size c.requires.table in
    let one = one_shl c.ilog2.result 64 c.ilog2.ensures.bound in
    ap (λ h. 2 * h - 1 - (c.args.buckets - 1 - c.bucket_of.result - h)) one
    ∙ next_cursor (bits_of c.args.buckets) c.args.cursor c.bucket_of.result (c.args.buckets - 1 - c.bucket_of.result) c.ilog2.result w.few
    (c.bucket_of.ensures ∙ ap (λ n. c.args.cursor % n) w.power) (omega (arith, w.power)) c.ilog2.ensures.power_le c.ilog2.ensures.next_power_gt
