use Rattle.std.proofs.Common.{rules, ◌≡◌, pos, int_lt, unsigned_abs, min, false}
use Rattle.cmd_zsets.proofs.Reaches.{behind_some}
use Rattle.cmd_zsets.proofs.ranges.so_many.Goals as goal

pub returns-clause-passed : goal.returns-clause-passed
returns-clause-passed c list long =
    let below : int_lt c.args.n (pos 0) ≡ false = search rules in
    let is : c.min.result ≡ min (unsigned_abs c.args.n) c.args.count = search rules in
    behind_some c.args.n list c.args.count c.min.result below long is
