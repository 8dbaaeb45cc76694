use Rattle.sessions.proofs.Endings.{ends_at_once}
use Rattle.sessions.proofs.pieces.serve_sessions.Goals as goal

pub returns-in_default : goal.returns-in_default
returns-in_default g c = ends_at_once g.E.Sessions.turns g.E.Server.executes g.E.Server.works c.args.sessions c.args.limit _ _ (g.I.Source.seen c.args.input.now) (g.O.Sink.seen c.args.output.now)

pub returns-in_default-new : goal.returns-in_default-new
returns-in_default-new g c = ends_at_once g.E.Sessions.turns g.E.Server.executes g.E.Server.works c.args.sessions c.args.limit _ _ (g.I.Source.seen c.args.input.now) (g.O.Sink.seen c.args.output.now)

pub returns-in_default-vec : goal.returns-in_default-vec
returns-in_default-vec g c = ends_at_once g.E.Sessions.turns g.E.Server.executes g.E.Server.works c.args.sessions c.args.limit _ _ (g.I.Source.seen c.args.input.now) (g.O.Sink.seen c.args.output.now)
