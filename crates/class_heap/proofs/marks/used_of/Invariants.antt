use Rattle.std.proofs.Common.{◌≡◌, ◌*◌, ◌≤◌, ℕ, List, take, sum_by}
use Rattle.blocks.specs.Slabs.{used_in}
use Rattle.class_heap.specs.declared.entry.Entry.{Entry}
use Rattle.class_heap.specs.Marks.{uses}
use Rattle.class_heap.proofs.marks.used_of.Given as goal

pub record IsSum (entries : List Entry) (class number used : ℕ) : Type 0 where
  pub sum : used ≡ sum_by (used_in class) (uses (take number entries))
  pub most : used ≤ number * 8192

abbrev pub invariant-add : goal.invariant-add
invariant-add l = IsSum l.entries l.class l.entry-index l.used
