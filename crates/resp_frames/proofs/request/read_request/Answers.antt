use Rattle.std.proofs.Common.{arith}
use Rattle.resp_frames.proofs.request.read_request.Goals as goal

pub steps-init : goal.steps-init
steps-init c = c.requires

pub take_step-requires : goal.take_step-requires
take_step-requires c = c.steps.invariant

pub steps-smaller : goal.steps-smaller
steps-smaller c = (let on = rw c.in-On.is at c.in_ok-next.ensures in omega (arith, on.further, on.within))

pub steps-preserved : goal.steps-preserved
steps-preserved c = (let on = rw c.in-On.is at c.in_ok-next.ensures in on.stands)

pub returns-in-Open : goal.returns-in-Open
returns-in-Open c = rw c.in-Open.is at c.in_ok-next.ensures

pub returns-in-Request : goal.returns-in-Request
returns-in-Request c = rw c.in-Request.is at c.in_ok-next.ensures

pub returns-in-Passed : goal.returns-in-Passed
returns-in-Passed c = rw c.in-Passed.is at c.in_ok-next.ensures

pub returns-in-Broken : goal.returns-in-Broken
returns-in-Broken c = rw c.in-Broken.is at c.in_ok-next.ensures
