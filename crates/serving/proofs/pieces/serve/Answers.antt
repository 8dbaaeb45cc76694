use Rattle.std.proofs.Common.{length, arith, ap, sym, ◌∙◌}
use Rattle.std.proofs.lemmas.List.{length-take-le}
use Rattle.serving.specs.Timed.{TimedStep, TimedCut}
use Rattle.serving.proofs.Endings.{serving_starts, ends_protocol, ends_tail, ends_quit, ends_fault, ends_memory, ends_limit, ends_read_fault, ends_whole, ends_cut, ends_taken, serving_on}
use Rattle.serving.proofs.Endings.{most_within, some_taken, room_left, taken_within, fits_w64, falls}
use Rattle.serving.proofs.pieces.serve.Goals as goal

pub pieces-init : goal.pieces-init
pieces-init g c = record {
  serving = serving_starts (TimedStep g.E.Server.executes g.E.Server.works g.E.Server.quits) (TimedCut g.E.Server.executes g.E.Server.works g.E.Server.quits) g.E.Server.quits _
      (g.I.Source.seen c.args.input.now) (g.O.Sink.seen c.args.output.now) c.args.feeder.now c.requires.feeder;
  none = c.requires.pending;
  within = omega arith;
}

pub answer_all-requires : goal.answer_all-requires
answer_all-requires g c = c.pieces.invariant.none

pub returns-in-Ok : goal.returns-in-Ok
returns-in-Ok g c =
    let a = c.in-Protocol.ensures.answers in
    ends_protocol (TimedStep g.E.Server.executes g.E.Server.works g.E.Server.quits) (TimedCut g.E.Server.executes g.E.Server.works g.E.Server.quits) g.E.Server.quits _ c.args.limit
    (g.I.Source.seen c.args.input.now) (g.I.Source.seen c.pieces.input) (g.O.Sink.seen c.args.output.now) (g.O.Sink.seen c.pieces.output) (g.O.Sink.seen c.answer_all.new.output)
    c.pieces.taken c.pieces.feeder _ c.pieces.invariant.within c.pieces.invariant.serving (g.I.Source.seen c.pieces.input) (g.O.Sink.seen c.put_fault.new.sink) c.answer_all.new.feeder
    _ a.0 c.in-Protocol.rule c.in-Protocol.at a.1 a.2 c.in-Ok.ensures

pub returns-in-Err : goal.returns-in-Err
returns-in-Err g c =
    let a = c.in-Protocol.ensures.answers in
    ends_tail (TimedStep g.E.Server.executes g.E.Server.works g.E.Server.quits) (TimedCut g.E.Server.executes g.E.Server.works g.E.Server.quits) g.E.Server.quits _ c.args.limit
    (g.I.Source.seen c.args.input.now) (g.I.Source.seen c.pieces.input) (g.O.Sink.seen c.args.output.now) (g.O.Sink.seen c.pieces.output) (g.O.Sink.seen c.answer_all.new.output)
    c.pieces.taken c.pieces.feeder _ c.pieces.invariant.within c.pieces.invariant.serving (g.I.Source.seen c.pieces.input) (g.O.Sink.seen c.put_fault.new.sink) c.answer_all.new.feeder
    _ a.0 c.in-Protocol.rule c.in-Protocol.at a.1 a.2 c.in-Err.ensures

pub returns-in-Quit : goal.returns-in-Quit
returns-in-Quit g c = ends_quit (TimedStep g.E.Server.executes g.E.Server.works g.E.Server.quits) (TimedCut g.E.Server.executes g.E.Server.works g.E.Server.quits) g.E.Server.quits _
    c.args.limit (g.I.Source.seen c.args.input.now) (g.I.Source.seen c.pieces.input) (g.O.Sink.seen c.args.output.now) (g.O.Sink.seen c.pieces.output)
    (g.O.Sink.seen c.answer_all.new.output) c.pieces.taken c.pieces.feeder _ c.pieces.invariant.within c.pieces.invariant.serving _ c.in-Quit.ensures.answers

pub returns-in-Fault : goal.returns-in-Fault
returns-in-Fault g c =
    let a = c.in-Fault.ensures.answers in
    ends_fault (TimedStep g.E.Server.executes g.E.Server.works g.E.Server.quits) (TimedCut g.E.Server.executes g.E.Server.works g.E.Server.quits) g.E.Server.quits _ c.args.limit
    (g.I.Source.seen c.args.input.now) (g.I.Source.seen c.pieces.input) (g.O.Sink.seen c.args.output.now) (g.O.Sink.seen c.pieces.output) (g.O.Sink.seen c.answer_all.new.output)
    c.pieces.taken c.pieces.feeder _ c.pieces.invariant.within c.pieces.invariant.serving _ a

pub returns-in-Memory : goal.returns-in-Memory
returns-in-Memory g c =
    let a = c.in-Memory.ensures.answers in
    ends_memory (TimedStep g.E.Server.executes g.E.Server.works g.E.Server.quits) (TimedCut g.E.Server.executes g.E.Server.works g.E.Server.quits) g.E.Server.quits _ c.args.limit
    (g.I.Source.seen c.args.input.now) (g.I.Source.seen c.pieces.input) (g.O.Sink.seen c.args.output.now) (g.O.Sink.seen c.pieces.output) (g.O.Sink.seen c.answer_all.new.output)
    c.pieces.taken c.pieces.feeder _ c.pieces.invariant.within c.pieces.invariant.serving a.0 a.1 _ a.2

pub returns-then-taken-limit : goal.returns-then-taken-limit
returns-then-taken-limit g c =
    let a = c.in-All.ensures.answers in
    ends_limit (TimedStep g.E.Server.executes g.E.Server.works g.E.Server.quits) (TimedCut g.E.Server.executes g.E.Server.works g.E.Server.quits) g.E.Server.quits _ c.args.limit
    (g.I.Source.seen c.args.input.now) (g.I.Source.seen c.pieces.input) (g.O.Sink.seen c.args.output.now) (g.O.Sink.seen c.pieces.output) (g.O.Sink.seen c.answer_all.new.output)
    c.pieces.taken c.pieces.feeder _ c.pieces.invariant.within c.pieces.invariant.serving (g.I.Source.seen c.pieces.input) (g.O.Sink.seen c.answer_all.new.output)
    c.answer_all.new.feeder _ a.0 c.if-taken-limit.true a.1

pub overflow_sub-limit : goal.overflow_sub-limit
overflow_sub-limit g c = c.pieces.invariant.within

pub slice_bounds-take_piece-end : goal.slice_bounds-take_piece-end
slice_bounds-take_piece-end g c = most_within _ c.args.limit _ _ c.min-most.ensures (c.pieces.auto.room ∙ c.requires.room)

pub slice_bounds-take_piece-end-in-pieces : goal.slice_bounds-take_piece-end-in-pieces
slice_bounds-take_piece-end-in-pieces g c = sym (length-take-le _ c.pieces.room (most_within _ c.args.limit _ _ c.min-most.ensures (c.pieces.auto.room ∙ c.requires.room)))

pub take_piece-requires-clause-some : goal.take_piece-requires-clause-some
take_piece-requires-clause-some g c = some_taken _ c.args.limit _ c.pieces.room c.min-most.ensures (c.pieces.auto.room ∙ c.requires.room) c.pieces.invariant.within c.if-taken-limit.false

pub take_piece-requires-clause-few : goal.take_piece-requires-clause-few
take_piece-requires-clause-few g c =
    room_left _ c.args.limit _ _ c.pieces.room c.min-most.ensures (c.pieces.auto.room ∙ c.requires.room) c.pieces.invariant.within c.requires.limit
    (c.in-All.ensures.answers.2 ∙ c.pieces.invariant.serving.fed)

pub overflow_add-taken : goal.overflow_add-taken
overflow_add-taken g c = fits_w64 _ c.args.limit (taken_within _ c.args.limit _ _ c.pieces.room c.min-most.ensures c.pieces.invariant.within c.in-Piece.ensures.few) c.requires.limit

pub pieces-smaller : goal.pieces-smaller
pieces-smaller g c = falls c.args.limit _ _ (taken_within _ c.args.limit _ _ c.pieces.room c.min-most.ensures c.pieces.invariant.within c.in-Piece.ensures.few) c.in-Piece.ensures.some

pub pieces-preserved : goal.pieces-preserved
pieces-preserved g c =
    let t = c.in-Piece.ensures in
    let a = c.in-All.ensures.answers in
    record {
      serving = serving_on (TimedStep g.E.Server.executes g.E.Server.works g.E.Server.quits) (TimedCut g.E.Server.executes g.E.Server.works g.E.Server.quits) g.E.Server.quits _
          c.args.limit (g.I.Source.seen c.args.input.now) (g.I.Source.seen c.pieces.input) (g.O.Sink.seen c.args.output.now) (g.O.Sink.seen c.pieces.output)
          (g.O.Sink.seen c.answer_all.new.output) c.pieces.taken c.pieces.feeder _ c.pieces.invariant.within c.pieces.invariant.serving (g.I.Source.seen c.take_piece.new.input)
          (g.O.Sink.seen c.answer_all.new.output) c.answer_all.new.feeder _ a.0 a.2 _ c.in-Piece.count c.take_piece.new.feeder t;
      none = c.in-All.ensures.none;
      within = taken_within _ c.args.limit _ _ c.pieces.room c.min-most.ensures c.pieces.invariant.within t.few;
    }

pub returns-then-kept-eq0 : goal.returns-then-kept-eq0
returns-then-kept-eq0 g c =
    let t = c.in-End.ensures in
    let a = c.in-All.ensures.answers in
    ends_whole (TimedStep g.E.Server.executes g.E.Server.works g.E.Server.quits) (TimedCut g.E.Server.executes g.E.Server.works g.E.Server.quits) g.E.Server.quits _ c.args.limit
    (g.I.Source.seen c.args.input.now) (g.I.Source.seen c.pieces.input) (g.O.Sink.seen c.args.output.now) (g.O.Sink.seen c.pieces.output) (g.O.Sink.seen c.answer_all.new.output)
    c.pieces.taken c.pieces.feeder _ c.pieces.invariant.within c.pieces.invariant.serving (g.I.Source.seen c.take_piece.new.input) (g.O.Sink.seen c.answer_all.new.output)
    c.answer_all.new.feeder _ a.0 c.if-taken-limit.false t.0 t.1 (sym (ap (λ f. length f.kept) t.2) ∙ sym c.kept.ensures ∙ c.if-kept-eq0.true)

pub returns-else-kept-eq0 : goal.returns-else-kept-eq0
returns-else-kept-eq0 g c =
    let t = c.in-End.ensures in
    let a = c.in-All.ensures.answers in
    ends_cut (TimedStep g.E.Server.executes g.E.Server.works g.E.Server.quits) (TimedCut g.E.Server.executes g.E.Server.works g.E.Server.quits) g.E.Server.quits _ c.args.limit
    (g.I.Source.seen c.args.input.now) (g.I.Source.seen c.pieces.input) (g.O.Sink.seen c.args.output.now) (g.O.Sink.seen c.pieces.output) (g.O.Sink.seen c.answer_all.new.output)
    c.pieces.taken c.pieces.feeder _ c.pieces.invariant.within c.pieces.invariant.serving (g.I.Source.seen c.take_piece.new.input) (g.O.Sink.seen c.answer_all.new.output)
    c.answer_all.new.feeder _ a.0 c.if-taken-limit.false a.1 t.0 t.1 (λ e. c.if-kept-eq0.false (c.kept.ensures ∙ ap (λ f. length f.kept) t.2 ∙ e))

pub returns-in-Fault-take_piece : goal.returns-in-Fault-take_piece
returns-in-Fault-take_piece g c =
    let a = c.in-All.ensures.answers in
    ends_read_fault (TimedStep g.E.Server.executes g.E.Server.works g.E.Server.quits) (TimedCut g.E.Server.executes g.E.Server.works g.E.Server.quits) g.E.Server.quits _ c.args.limit
    (g.I.Source.seen c.args.input.now) (g.I.Source.seen c.pieces.input) (g.O.Sink.seen c.args.output.now) (g.O.Sink.seen c.pieces.output) (g.O.Sink.seen c.answer_all.new.output)
    c.pieces.taken c.pieces.feeder _ c.pieces.invariant.within c.pieces.invariant.serving (g.I.Source.seen c.take_piece.new.input) (g.O.Sink.seen c.answer_all.new.output)
    c.answer_all.new.feeder _ a.0 c.if-taken-limit.false a.1 c.in-Fault-take_piece.ensures

pub returns-in-Memory-take_piece : goal.returns-in-Memory-take_piece
returns-in-Memory-take_piece g c =
    let a = c.in-All.ensures.answers in
    ends_taken (TimedStep g.E.Server.executes g.E.Server.works g.E.Server.quits) (TimedCut g.E.Server.executes g.E.Server.works g.E.Server.quits) g.E.Server.quits _ c.args.limit
    (g.I.Source.seen c.args.input.now) (g.I.Source.seen c.pieces.input) (g.O.Sink.seen c.args.output.now) (g.O.Sink.seen c.pieces.output) (g.O.Sink.seen c.answer_all.new.output)
    c.pieces.taken c.pieces.feeder _ c.pieces.invariant.within c.pieces.invariant.serving (g.I.Source.seen c.take_piece.new.input) (g.O.Sink.seen c.answer_all.new.output)
    c.answer_all.new.feeder _ a.0 _ (taken_within _ c.args.limit _ _ c.pieces.room c.min-most.ensures c.pieces.invariant.within (omega arith)) c.in-Memory-take_piece.ensures
