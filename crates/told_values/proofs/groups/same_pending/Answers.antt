use Rattle.std.proofs.Common.{arith}
use Rattle.told_values.specs.Told.{pending_told}
use Rattle.told_values.proofs.Alike.{map_at}
use Rattle.told_values.proofs.groups.same_pending.Goals as goal

pub returns-then-not-same_one : goal.returns-then-not-same_one
returns-then-not-same_one c = (
  λ h. absurd cc,
  λ e. c.if-not-same_one.ensures.1 (map_at pending_told c.args.pending.now c.args.other.now c.loop-index.index c.index-pending-index.result c.index-other-index.result (omega arith) (omega arith)
      c.index-pending-index.is c.index-other-index.is e),
)
