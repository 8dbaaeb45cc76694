use Rattle.std.proofs.Common.{◌<◌, ℕ, List}
use Rattle.class_heap.specs.Tree.{IsMendedBut, SameLeaves}
use Rattle.class_heap.proofs.directory.mend.Given as goal

pub record IsOnTheWay (bound node : ℕ) (before nodes : List ℕ) : Type 0 where
  pub inside : node < bound
  pub broken : IsMendedBut bound nodes node
  pub leaves : SameLeaves bound before nodes

abbrev pub invariant-up : goal.invariant-up
invariant-up l = IsOnTheWay l.bound l.node l.initial.nodes l.nodes

abbrev pub decreases-up : goal.decreases-up
decreases-up l = l.node
