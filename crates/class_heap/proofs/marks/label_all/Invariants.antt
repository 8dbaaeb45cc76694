use Rattle.std.proofs.Common.{◌≡◌, ◌<◌, ℕ, List, length, true}
use Rattle.class_heap.specs.declared.entry.Entry.{Entry}
use Rattle.class_heap.specs.declared.directory.Directory.{Directory}
use Rattle.class_heap.specs.Directory.{labels_at}
use Rattle.class_heap.specs.Entries.{entry_at, labels_of}
use Rattle.class_heap.proofs.marks.label_all.Given as goal

pub record IsLabelledBelow (number : ℕ) (entries : List Entry) (directory : Directory) : Type 0 where
  pub bound : directory.bound ≡ length entries
  pub labelled : (n : ℕ) → n < number → labels_at directory n ≡ labels_of true (entry_at entries n)

abbrev pub invariant-label : goal.invariant-label
invariant-label l = IsLabelledBelow l.number l.entries l.directory
