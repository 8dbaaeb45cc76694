use Rattle.std.proofs.Common.{◌≡◌, ℕ, List, drop}
use Rattle.stream_groups.specs.Groups.{Id}
use Rattle.stream_groups.specs.Index.{stays}
use Rattle.stream_groups.specs.Kept.{logged}
use Rattle.stream_groups.proofs.index.Index.leave_all.Given as goal

abbrev pub invariant-loop-at : goal.invariant-loop-at
invariant-loop-at l = (n : List ℕ) (q : Id) → stays l.name (drop l.at l.ids) (logged (drop l.at l.log)) l.self n q ≡ stays l.name l.ids (logged l.log) l.fn.self n q
