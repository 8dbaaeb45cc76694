use Rattle.saving_top.proofs.Short.{frames_short}
use Rattle.saving_top.proofs.laws.frames_are_short.Goals as goal

pub returns : goal.returns
returns c = frames_short
