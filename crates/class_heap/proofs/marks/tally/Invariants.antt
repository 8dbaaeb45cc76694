use Rattle.std.proofs.Common.{ℕ, List, take}
use Rattle.blocks.specs.Slabs.{used_in}
use Rattle.class_heap.specs.declared.entry.Entry.{Entry}
use Rattle.class_heap.specs.Marks.{filled_in, uses, IsTally}
use Rattle.class_heap.proofs.marks.tally.Given as goal

pub record AreTallies (entries : List Entry) (number : ℕ) (blocks slabs : List ℕ) : Type 0 where
  pub used : IsTally used_in (uses (take number entries)) blocks
  pub filled : IsTally filled_in (uses (take number entries)) slabs

abbrev pub invariant-add : goal.invariant-add
invariant-add l = AreTallies l.entries l.entry-index l.used l.filled
