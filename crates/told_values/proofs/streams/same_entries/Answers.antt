use Rattle.std.proofs.Common.{arith}
use Rattle.stream_object.specs.Ranges.{taken}
use Rattle.told_values.proofs.Alike.{map_at}
use Rattle.told_values.proofs.streams.same_entries.Goals as goal

pub returns-then-not-same_entry : goal.returns-then-not-same_entry
returns-then-not-same_entry c = (
  λ h. absurd cc,
  λ e. c.if-not-same_entry.ensures.1 (map_at taken c.args.entries.now c.args.other.now c.loop-index.index c.index-entries-index.result c.index-other-index.result (omega arith) (omega arith)
      c.index-entries-index.is c.index-other-index.is e),
)
