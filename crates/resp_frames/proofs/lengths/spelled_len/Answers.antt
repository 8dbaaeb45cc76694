use Rattle.std.proofs.Common.{refl}
use Rattle.plain_world.specs.Spelling.{part_bytes}
use Rattle.resp_frames.proofs.Longer.{longer}
use Rattle.resp_frames.proofs.lengths.spelled_len.Goals as goal

pub loop-part-init : goal.loop-part-init
loop-part-init c = refl

pub loop-part-preserved : goal.loop-part-preserved
loop-part-preserved c = longer part_bytes c.parts-part-items.result.now c.loop-part.part-index c.part-item.result c.loop-part-test.true c.part-item.is c.loop-part.len c.part_len-len.result _
    c.loop-part.invariant c.part_len-len.ensures refl
