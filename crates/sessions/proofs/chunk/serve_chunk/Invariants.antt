use Rattle.std.proofs.Common.{◌≡◌, ◌≤◌, ◌+◌, ◌-◌, length, take}
use Rattle.outside.specs.Pacing.{following}
use Rattle.serving.specs.Output.{pending_bytes}
use Rattle.sessions.specs.Chunks.{FedAtMost}
use Rattle.sessions.proofs.Running.{RunsTo}
use Rattle.sessions.proofs.chunk.serve_chunk.Given as goal

abbrev pub invariant-bytes : goal.invariant-bytes
invariant-bytes g l = record {
  runs : RunsTo g.E.Sessions.turns g.E.Server.executes g.E.Server.works (take l.at l.bytes) l.fn.hub l.hub l.fn.slots.items l.slots.items
      (record {
        engine = l.fn.engine;
        clock = (goal.Clock-dyn g (l.fn.clock.vtable, l.fn.clock.value)).answers l.fn.clock.value;
        pacers =
            following (λ b. (goal.Pacer-dyn g (b.vtable, b.value)).pacing b.value) l.fn.conductor;
      })
      (record {
        engine = l.engine;
        clock = (goal.Clock-dyn g (l.clock.vtable, l.clock.value)).answers l.clock.value;
        pacers =
            following (λ b. (goal.Pacer-dyn g (b.vtable, b.value)).pacing b.value) l.conductor;
      }) (g.O.Sink.seen l.fn.output) (g.O.Sink.seen l.output) (pending_bytes l.fn.pending) (pending_bytes l.pending);
  fed : FedAtMost (l.before + l.at) l.slots.items;
  within : l.at ≤ length l.bytes;
  many : length l.slots.items ≡ l.hub.sessions;
  same : l.hub.sessions ≡ l.fn.hub.sessions;
}

abbrev pub decreases-bytes : goal.decreases-bytes
decreases-bytes g l = length l.bytes - l.at
