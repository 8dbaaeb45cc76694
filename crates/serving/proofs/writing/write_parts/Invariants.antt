use Rattle.std.proofs.Common.{take}
use Rattle.plain_world.specs.Spelling.{spelling}
use Rattle.serving.specs.Output.{pending_bytes, Onward}
use Rattle.serving.proofs.writing.write_parts.Given as goal

abbrev pub invariant-loop-part : goal.invariant-loop-part
invariant-loop-part g l = Onward (g.O.Sink.seen l.fn.output) (g.O.Sink.seen l.output) (pending_bytes l.fn.pending) (pending_bytes l.pending) (spelling (take l.part-index l.part-items))
