use Rattle.std.proofs.Common.{◌≡◌, [], ◌-◌, ◌≤◌}
use Rattle.outside.specs.Pacing.{following}
use Rattle.serving.specs.Output.{pending_bytes}
use Rattle.serving.specs.Timed.{TimedStep, TimedCut}
use Rattle.serving.proofs.Endings.{Serving}
use Rattle.serving.proofs.pieces.serve.Given as goal

abbrev pub invariant-pieces : goal.invariant-pieces
invariant-pieces g l = record {
  serving : Serving (TimedStep g.E.Server.executes g.E.Server.works g.E.Server.quits) (TimedCut g.E.Server.executes g.E.Server.works g.E.Server.quits) g.E.Server.quits
      (record {
        engine = l.fn.engine;
        clock = (goal.Clock-dyn g (l.fn.clock.vtable, l.fn.clock.value)).answers l.fn.clock.value;
        pacers =
            following (λ b. (goal.Pacer-dyn g (b.vtable, b.value)).pacing b.value) l.fn.conductor;
      }) (g.I.Source.seen l.fn.input) (g.I.Source.seen l.input) l.taken l.feeder
      (record {
        engine = l.engine;
        clock = (goal.Clock-dyn g (l.clock.vtable, l.clock.value)).answers l.clock.value;
        pacers =
            following (λ b. (goal.Pacer-dyn g (b.vtable, b.value)).pacing b.value) l.conductor;
      }) (g.O.Sink.seen l.fn.output) (g.O.Sink.seen l.output);
  none : pending_bytes l.pending ≡ [];
  within : l.taken ≤ l.limit;
}

abbrev pub decreases-pieces : goal.decreases-pieces
decreases-pieces g l = l.limit - l.taken
