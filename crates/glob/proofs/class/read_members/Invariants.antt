use Rattle.std.proofs.Common.{length, ◌-◌, ◌≡◌, ◌≤◌, drop, ◌||◌}
use Rattle.glob.specs.Class.{holds_behind, rest_behind}
use Rattle.glob.proofs.class.read_members.Given as goal

abbrev pub invariant-loop-at : goal.invariant-loop-at
invariant-loop-at l = record {
  room : l.at ≤ length l.members;
  takes : (l.takes || holds_behind 0 (drop l.at l.members) l.byte) ≡ holds_behind 0 l.members l.byte;
  rest : rest_behind 0 (drop l.at l.members) ≡ rest_behind 0 l.members;
}

abbrev pub decreases-loop-at : goal.decreases-loop-at
decreases-loop-at l = length l.members - l.at
