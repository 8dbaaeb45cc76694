use Rattle.std.proofs.Common.{length}
use Rattle.resp_frames.specs.Feeding.{SameFed}
use Rattle.outside.specs.Pacing.{following}
use Rattle.serving.specs.Output.{pending_bytes}
use Rattle.sessions.specs.Answering.{Serves}
use Rattle.sessions.proofs.answering.answer_all.Given as goal

abbrev pub invariant-requests : goal.invariant-requests
invariant-requests g l = record {
  serves : Serves g.E.Sessions.turns g.E.Server.executes g.E.Server.works l.session l.fn.feeder.kept l.feeder.kept
      (record {
        engine = l.fn.engine;
        clock = (goal.Clock-dyn g (l.fn.clock.vtable, l.fn.clock.value)).answers l.fn.clock.value;
        pacers =
            following (λ b. (goal.Pacer-dyn g (b.vtable, b.value)).pacing b.value) l.fn.conductor;
      })
      (record {
        engine = l.engine;
        clock = (goal.Clock-dyn g (l.clock.vtable, l.clock.value)).answers l.clock.value;
        pacers =
            following (λ b. (goal.Pacer-dyn g (b.vtable, b.value)).pacing b.value) l.conductor;
      }) (g.O.Sink.seen l.fn.output) (g.O.Sink.seen l.output) (pending_bytes l.fn.pending) (pending_bytes l.pending);
  fed : SameFed l.fn.feeder l.feeder;
}

abbrev pub decreases-requests : goal.decreases-requests
decreases-requests g l = length l.feeder.kept
