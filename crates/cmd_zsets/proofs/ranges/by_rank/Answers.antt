use Rattle.std.proofs.Common.{◌∙◌}
use Rattle.std.specs.Int.{w64}
use Rattle.std.proofs.lemmas.Int.{to_z-of_z}
use Rattle.plain_model.specs.ZsetSteps.{met}
use Rattle.cmd_zsets.proofs.Told.{met_long}
use Rattle.cmd_zsets.proofs.Reaches.{reach_is}
use Rattle.cmd_zsets.proofs.ranges.by_rank.Goals as goal

pub returns-clause-range : goal.returns-clause-range
returns-clause-range c list size =
    reach_is (met c.args.from list) c.args.a c.args.b c.args.len c.first_of-first.result c.behind_last-end.result c.min.result c.min-2.result c.saturating_sub.result (met_long c.args.from list ∙ size)
    (rw (to_z-of_z w64 c.args.a c.ranges.a) at c.first_of-first.ensures) (rw (to_z-of_z w64 c.args.b c.ranges.b) at c.behind_last-end.ensures) c.min.ensures c.min-2.ensures c.saturating_sub.ensures
