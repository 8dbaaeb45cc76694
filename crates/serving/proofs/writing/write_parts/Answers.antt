use Rattle.std.proofs.Common.{subst, ◌++◌}
use Rattle.plain_world.specs.Spelling.{part_bytes, spelling}
use Rattle.resp_frames.specs.Puts.{PutsFront}
use Rattle.serving.specs.Output.{pending_bytes}
use Rattle.serving.proofs.Onward.{onward_nothing, onward_part, breaks_part}
use Rattle.serving.proofs.writing.write_parts.Goals as goal

pub loop-part-init : goal.loop-part-init
loop-part-init g c = onward_nothing _ _

pub loop-part-preserved : goal.loop-part-preserved
loop-part-preserved g c = onward_part part_bytes c.parts-part-items.result.now c.loop-part.part-index c.part-item.result c.loop-part-test.true c.part-item.is _ _ _ _ _
    c.loop-part.invariant _ c.in-Ok.ensures

pub returns-in-Err : goal.returns-in-Err
returns-in-Err g c =
    subst (λ l. PutsFront (g.O.Sink.seen c.args.output.now) (g.O.Sink.seen c.write_part.new.output) (pending_bytes c.args.pending.now ++ spelling l)) c.parts-part-items.ensures
    (breaks_part part_bytes c.parts-part-items.result.now c.loop-part.part-index c.part-item.result c.loop-part-test.true c.part-item.is _ _ _ _ _ c.loop-part.invariant c.in-Err.ensures)
