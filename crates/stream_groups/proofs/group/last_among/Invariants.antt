use Rattle.std.proofs.Common.{◌≡◌, drop}
use Rattle.stream_groups.specs.Groups.{last_among}
use Rattle.stream_groups.proofs.group.last_among.Given as goal

abbrev pub invariant-loop-id : goal.invariant-loop-id
invariant-loop-id l = last_among l.last (drop l.id-index l.ids) ≡ last_among l.fn.last l.ids
