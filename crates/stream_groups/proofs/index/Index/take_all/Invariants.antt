use Rattle.std.proofs.Common.{◌≡◌, ℕ, List, false, drop}
use Rattle.stream_groups.specs.Groups.{Id}
use Rattle.stream_groups.specs.Index.{marked}
use Rattle.stream_groups.proofs.index.Index.take_all.Given as goal

abbrev pub invariant-loop-id : goal.invariant-loop-id
invariant-loop-id l = (n : List ℕ) (q : Id) → marked false l.name (drop l.id-index l.ids) l.self n q ≡ marked false l.name l.ids l.fn.self n q
