use Rattle.serving.specs.Timed.{TimedStep, TimedCut}
use Rattle.serving.proofs.Endings.{ends_at_once}
use Rattle.serving.proofs.pieces.serve_input.Goals as goal

pub returns-in_default : goal.returns-in_default
returns-in_default g c = ends_at_once (TimedStep g.E.Server.executes g.E.Server.works g.E.Server.quits) (TimedCut g.E.Server.executes g.E.Server.works g.E.Server.quits) g.E.Server.quits _
    c.args.limit (g.I.Source.seen c.args.input.now) (g.O.Sink.seen c.args.output.now)

pub returns-in_default-vec : goal.returns-in_default-vec
returns-in_default-vec g c = ends_at_once (TimedStep g.E.Server.executes g.E.Server.works g.E.Server.quits) (TimedCut g.E.Server.executes g.E.Server.works g.E.Server.quits)
    g.E.Server.quits _ c.args.limit (g.I.Source.seen c.args.input.now) (g.O.Sink.seen c.args.output.now)
