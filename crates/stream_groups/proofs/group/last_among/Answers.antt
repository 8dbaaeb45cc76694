use Rattle.std.proofs.Common.{sym, ap, ◌∙◌}
use Rattle.std.proofs.lemmas.List.{drop_more}
use Rattle.stream_groups.specs.Groups.{last_among}
use Rattle.stream_groups.proofs.group.last_among.Goals as goal

pub loop-id-preserved : goal.loop-id-preserved
loop-id-preserved c = ap (last_among c.loop-id.last) (sym (drop_more c.args.ids.now c.loop-id.id-index (0, 0) c.loop-id-test.true)) ∙ c.loop-id.invariant
