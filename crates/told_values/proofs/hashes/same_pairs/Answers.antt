use Rattle.std.proofs.Common.{arith}
use Rattle.std.proofs.lemmas.Bool.Decides.{Decides-at}
use Rattle.stream_groups.specs.Kept.{bytes_of}
use Rattle.told_values.proofs.Alike.{maps_differ, fields_tell}
use Rattle.told_values.proofs.hashes.same_pairs.Goals as goal

pub returns-then-len : goal.returns-then-len
returns-then-len c =
    maps_differ bytes_of c.args.pairs.now.entries c.args.other.now.entries c.len.ensures.ordered c.len-2.ensures.ordered
    (λ e. omega (arith, e, c.if-len.true, c.len.ensures.len, c.len-2.ensures.len))

pub returns : goal.returns
returns c = Decides-at c.eq.result _ c.eq.ensures (fields_tell c.args.pairs.now.entries c.args.other.now.entries c.len.ensures.ordered c.len-2.ensures.ordered)
