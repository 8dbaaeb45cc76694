use Rattle.std.proofs.Common.{ap, ◌∙◌}
use Rattle.std.specs.FinMap.{insert}
use Rattle.std.specs.Int.{w128}
use Rattle.std.proofs.lemmas.Int.{to_z-of_z}
use Rattle.cmd_zsets.specs.Joined.{gathered}
use Rattle.cmd_zsets.proofs.Gathered.{put_gathered}
use Rattle.cmd_zsets.proofs.gathering.put_score.Goals as goal

pub returns : goal.returns
returns c =
    put_gathered c.args.sums.now c.insert.new.self c.in_ok-name.name c.args.score (rw (to_z-of_z w128 c.args.score c.ranges.score) at c.in_ok-insert.ensures.entries)
    ∙ ap (λ k. insert (gathered c.args.sums.now) k c.args.score) c.in_ok-name.ensures.items
