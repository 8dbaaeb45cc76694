use Rattle.std.proofs.Common.{sym, ap, ◌∙◌}
use Rattle.stream_object.specs.Streams.{stream_of}
use Rattle.plain_model.specs.StreamSteps.{from_id}
use Rattle.cmd_streams.proofs.several.start_of.Goals as goal

pub returns-in-None : goal.returns-in-None
returns-in-None c = λ m. sym (c.last_id.ensures m) ∙ sym (ap (from_id (stream_of m c.args.stream.now)) c.in-None.is)
