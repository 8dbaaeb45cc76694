use Rattle.std.proofs.Common.{add-one, arith}
use Rattle.plain_model.specs.declared.list_command.Side.TheVariants.{Before, After}
use Rattle.cmd_lists.proofs.Beside.{none_beside, first_beside}
use Rattle.cmd_lists.proofs.inserting.index_beside.Goals as goal

pub returns-in-None : goal.returns-in-None
returns-in-None g c element = none_beside c.args.side c.args.pivot.now element _ 0 c.in-None.ensures.found

pub overflow_add-result : goal.overflow_add-result
overflow_add-result g c = omega (arith, c.in-Some.ensures.fits)

pub returns-in-Before : goal.returns-in-Before
returns-in-Before g c =
    let first = c.in-Some.ensures.found in
    (omega (arith, first.inside), λ element. rw c.in-Before.is (first_beside Before c.args.pivot.now element _ 0 c.in-Some.index first.inside first.first first.equal))

pub returns-in-After : goal.returns-in-After
returns-in-After g c =
    let first = c.in-Some.ensures.found in
    (omega (arith, first.inside), λ element. rw (c.in-After.is, add-one) (first_beside After c.args.pivot.now element _ 0 c.in-Some.index first.inside first.first first.equal))
