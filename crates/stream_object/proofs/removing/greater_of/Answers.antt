use Rattle.std.proofs.Common.{sym}
use Rattle.stream_object.proofs.Losing.{greater_second, greater_first}
use Rattle.stream_object.proofs.removing.greater_of.Goals as goal

pub returns-then-is_below : goal.returns-then-is_below
returns-then-is_below c = sym (greater_second c.args.a c.args.b (c.is_below.ensures.0 c.if-is_below.true))

pub returns-else-is_below : goal.returns-else-is_below
returns-else-is_below c = sym (greater_first c.args.a c.args.b (λ h. (let bad = c.is_below.ensures.1 h in cc)))
