use Rattle.std.proofs.Common.{sym, ◌∙◌}
use Rattle.cmd_zsets.proofs.Gathered.{get_gathered}
use Rattle.cmd_zsets.proofs.gathering.score_in.Goals as goal

pub returns : goal.returns
returns c = c.copied.ensures ∙ c.get.ensures.value ∙ sym (get_gathered c.args.sums.now c.args.member.now)
