use Rattle.std.proofs.Common.{◌≡◌, [], ◌-◌, ◌≤◌}
use Rattle.outside.specs.Pacing.{following}
use Rattle.serving.specs.Output.{pending_bytes}
use Rattle.sessions.proofs.Endings.{Serving}
use Rattle.sessions.proofs.pieces.serve.Given as goal

abbrev pub invariant-pieces : goal.invariant-pieces
invariant-pieces g l = record {
  serving : Serving g.E.Sessions.turns g.E.Server.executes g.E.Server.works l.fn.hub.sessions
      (record {
        engine = l.fn.engine;
        clock = (goal.Clock-dyn g (l.fn.clock.vtable, l.fn.clock.value)).answers l.fn.clock.value;
        pacers =
            following (λ b. (goal.Pacer-dyn g (b.vtable, b.value)).pacing b.value) l.fn.conductor;
      })
      (record {
        engine = l.engine;
        clock = (goal.Clock-dyn g (l.clock.vtable, l.clock.value)).answers l.clock.value;
        pacers =
            following (λ b. (goal.Pacer-dyn g (b.vtable, b.value)).pacing b.value) l.conductor;
      }) (g.I.Source.seen l.fn.input) (g.I.Source.seen l.input) (g.O.Sink.seen l.fn.output) (g.O.Sink.seen l.output) l.taken l.hub l.slots.items;
  none : pending_bytes l.pending ≡ [];
  within : l.taken ≤ l.limit;
}

abbrev pub decreases-pieces : goal.decreases-pieces
decreases-pieces g l = l.limit - l.taken
