use Rattle.std.proofs.Common.{arith}
use Rattle.told_values.specs.Reading.{group_listed}
use Rattle.told_values.proofs.Alike.{map_at}
use Rattle.told_values.proofs.groups.same_listed.Goals as goal

pub returns-then-not-same_group : goal.returns-then-not-same_group
returns-then-not-same_group c = (
  λ h. absurd cc,
  λ e. c.if-not-same_group.ensures.1 (map_at group_listed c.args.groups.now c.args.other.now c.loop-index.index c.index-groups-index.result c.index-other-index.result (omega arith) (omega arith)
      c.index-groups-index.is c.index-other-index.is e),
)
