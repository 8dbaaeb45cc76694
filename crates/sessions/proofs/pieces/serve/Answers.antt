use Rattle.std.proofs.Common.{arith, sym, subst, ◌∙◌}
use Rattle.std.proofs.lemmas.List.{length-take-le}
use Rattle.serving.proofs.Endings.{most_within, fits_w64, falls}
use Rattle.sessions.specs.Chunks.{EndsThere}
use Rattle.sessions.proofs.Endings.{serving_starts, serving_on, ends_unknown, ends_limit, ends_read_fault, ends_end, ends_fault, ends_memory, most_some, taken_within, few_left}
use Rattle.sessions.proofs.pieces.serve.Goals as goal

pub pieces-init : goal.pieces-init
pieces-init g c = record {
  serving = serving_starts g.E.Sessions.turns g.E.Server.executes g.E.Server.works _ (g.I.Source.seen c.args.input.now) (g.O.Sink.seen c.args.output.now) c.args.hub.now c.args.slots.now.items
      c.requires.hub c.requires.slots;
  none = c.requires.pending;
  within = omega arith;
}

pub returns-then-is_unknown : goal.returns-then-is_unknown
returns-then-is_unknown g c =
    ends_unknown g.E.Sessions.turns g.E.Server.executes g.E.Server.works c.args.hub.now.sessions _ _ c.args.limit (g.I.Source.seen c.args.input.now) (g.I.Source.seen c.pieces.input)
    (g.O.Sink.seen c.args.output.now) (g.O.Sink.seen c.pieces.output) c.pieces.taken c.pieces.hub c.pieces.slots.items c.pieces.invariant.serving c.pieces.invariant.within
    c.if-is_unknown.ensures

pub returns-then-taken-limit : goal.returns-then-taken-limit
returns-then-taken-limit g c =
    ends_limit g.E.Sessions.turns g.E.Server.executes g.E.Server.works c.args.hub.now.sessions _ _ c.args.limit (g.I.Source.seen c.args.input.now) (g.I.Source.seen c.pieces.input)
    (g.O.Sink.seen c.args.output.now) (g.O.Sink.seen c.pieces.output) c.pieces.taken c.pieces.hub c.pieces.slots.items c.pieces.invariant.serving c.pieces.invariant.within
    c.if-is_unknown.ensures c.if-taken-limit.true

pub overflow_sub-limit : goal.overflow_sub-limit
overflow_sub-limit g c = c.pieces.invariant.within

pub take_bytes-requires-clause-some : goal.take_bytes-requires-clause-some
take_bytes-requires-clause-some g c = most_some _ c.args.limit _ c.min-most.ensures c.pieces.invariant.within c.if-taken-limit.false

pub take_bytes-requires-clause-within : goal.take_bytes-requires-clause-within
take_bytes-requires-clause-within g c = most_within _ c.args.limit _ _ c.min-most.ensures (c.pieces.auto.room ∙ c.requires.room)

pub returns-in-End : goal.returns-in-End
returns-in-End g c =
    ends_end g.E.Sessions.turns g.E.Server.executes g.E.Server.works c.args.hub.now.sessions _ _ c.args.limit (g.I.Source.seen c.args.input.now) (g.I.Source.seen c.pieces.input)
    (g.O.Sink.seen c.args.output.now) (g.O.Sink.seen c.pieces.output) c.pieces.taken c.pieces.hub c.pieces.slots.items c.pieces.invariant.serving c.pieces.invariant.within
    c.if-is_unknown.ensures c.if-taken-limit.false _ c.in-End.ensures.0 c.in-End.ensures.1 c.ended_at_end.result
    (subst (λ l. EndsThere c.pieces.hub.standing l c.ended_at_end.result) c.deref.ensures.value c.ended_at_end.ensures)

pub returns-in-Fault : goal.returns-in-Fault
returns-in-Fault g c =
    ends_read_fault g.E.Sessions.turns g.E.Server.executes g.E.Server.works c.args.hub.now.sessions _ _ c.args.limit (g.I.Source.seen c.args.input.now) (g.I.Source.seen c.pieces.input)
    (g.O.Sink.seen c.args.output.now) (g.O.Sink.seen c.pieces.output) c.pieces.taken c.pieces.hub c.pieces.slots.items c.pieces.invariant.serving c.pieces.invariant.within
    c.if-is_unknown.ensures c.if-taken-limit.false _ c.in-Fault.ensures

pub slice_bounds-serve_bytes-end : goal.slice_bounds-serve_bytes-end
slice_bounds-serve_bytes-end g c = let few = c.in-Bytes.ensures.few in let long = c.in-Bytes.ensures.long in omega (arith, few, long)

pub slice_bounds-serve_bytes-end-in-pieces : goal.slice_bounds-serve_bytes-end-in-pieces
slice_bounds-serve_bytes-end-in-pieces g c =
    let few = c.in-Bytes.ensures.few in
    let long = c.in-Bytes.ensures.long in
    sym (length-take-le c.in-Bytes.count _ (omega (arith, few, long)))

pub serve_bytes-requires-clause-pending : goal.serve_bytes-requires-clause-pending
serve_bytes-requires-clause-pending g c = c.pieces.invariant.none

pub serve_bytes-requires-clause-slots : goal.serve_bytes-requires-clause-slots
serve_bytes-requires-clause-slots g c = c.pieces.invariant.serving.running.many

pub serve_bytes-requires-clause-fed : goal.serve_bytes-requires-clause-fed
serve_bytes-requires-clause-fed g c = c.pieces.invariant.serving.fed

pub serve_bytes-requires-clause-few : goal.serve_bytes-requires-clause-few
serve_bytes-requires-clause-few g c = few_left _ c.args.limit _ c.in-Bytes.count _ c.min-most.ensures c.pieces.invariant.within c.in-Bytes.ensures.few c.requires.limit

pub overflow_add-taken : goal.overflow_add-taken
overflow_add-taken g c = fits_w64 _ c.args.limit (taken_within _ c.args.limit _ _ c.min-most.ensures c.pieces.invariant.within c.in-Bytes.ensures.few) c.requires.limit

pub pieces-smaller : goal.pieces-smaller
pieces-smaller g c = falls c.args.limit _ _ (taken_within _ c.args.limit _ _ c.min-most.ensures c.pieces.invariant.within c.in-Bytes.ensures.few) c.in-Bytes.ensures.some

pub pieces-preserved : goal.pieces-preserved
pieces-preserved g c =
    let within = taken_within _ c.args.limit _ _ c.min-most.ensures c.pieces.invariant.within c.in-Bytes.ensures.few in
    record {
      serving =
          serving_on g.E.Sessions.turns g.E.Server.executes g.E.Server.works c.args.hub.now.sessions _ _ c.args.limit (g.I.Source.seen c.args.input.now) (g.I.Source.seen c.pieces.input)
          (g.O.Sink.seen c.args.output.now) (g.O.Sink.seen c.pieces.output) c.pieces.taken c.pieces.hub c.pieces.slots.items c.pieces.invariant.serving _ _ _ _ c.in-Bytes.ensures within
          _ _ _ _ c.in-On.ensures.hub c.in-On.ensures.chunk;
      none = c.in-On.ensures.pending;
      within = within;
    }

pub returns-in-Fault-serve_bytes : goal.returns-in-Fault-serve_bytes
returns-in-Fault-serve_bytes g c =
    let within = taken_within _ c.args.limit _ _ c.min-most.ensures c.pieces.invariant.within c.in-Bytes.ensures.few in
    ends_fault g.E.Sessions.turns g.E.Server.executes g.E.Server.works c.args.hub.now.sessions _ _ c.args.limit (g.I.Source.seen c.args.input.now) (g.I.Source.seen c.pieces.input)
    (g.O.Sink.seen c.args.output.now) (g.O.Sink.seen c.pieces.output) c.pieces.taken c.pieces.hub c.pieces.slots.items c.pieces.invariant.serving _ _ _ _ c.in-Bytes.ensures within
    _ _ c.in-Fault-serve_bytes.ensures.chunk

pub returns-in-Memory : goal.returns-in-Memory
returns-in-Memory g c =
    let within = taken_within _ c.args.limit _ _ c.min-most.ensures c.pieces.invariant.within c.in-Bytes.ensures.few in
    ends_memory g.E.Sessions.turns g.E.Server.executes g.E.Server.works c.args.hub.now.sessions _ _ c.args.limit (g.I.Source.seen c.args.input.now) (g.I.Source.seen c.pieces.input)
    (g.O.Sink.seen c.args.output.now) (g.O.Sink.seen c.pieces.output) c.pieces.taken c.pieces.hub c.pieces.slots.items c.pieces.invariant.serving _ _ _ _ c.in-Bytes.ensures within
    _ _ c.in-Memory.ensures.chunk
