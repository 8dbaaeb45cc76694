use Rattle.std.proofs.Common.{◌≡◌}
use Rattle.std.specs.List.{filter}
use Rattle.set_object.specs.Members.{members}
use Rattle.cmd_sets.specs.Joined.{has_or_lacks}
use Rattle.cmd_sets.proofs.sifting.ask_each.Given as goal

abbrev pub invariant-loop-name : goal.invariant-loop-name
invariant-loop-name g l = l.kept.items ≡ filter (has_or_lacks l.there (members (g.B.BlockStore.blocks l.store) l.set)) l.yielded
