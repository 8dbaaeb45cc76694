use Rattle.std.proofs.Common.{◌≡◌, ◌<◌, ◌≤◌, ℕ, List, length, false}
use Rattle.blocks.specs.Slabs.{released}
use Rattle.class_heap.specs.declared.entry.Entry.{Entry}
use Rattle.class_heap.specs.declared.directory.Directory.{Directory}
use Rattle.class_heap.specs.Directory.{labels_at}
use Rattle.class_heap.specs.Entries.{block_in, entry_at, use_in, labels_of}
use Rattle.class_heap.proofs.marks.release_all.Given as goal

pub record IsReleasedBelow (number : ℕ) (before entries : List Entry) (directory : Directory) : Type 0 where
  pub long : length entries ≡ length before
  pub bound : directory.bound ≡ length before
  pub blocks : (n slot : ℕ) → block_in (entry_at entries n) slot ≡ block_in (entry_at before n) slot
  pub done : (n : ℕ) → n < number → use_in (entry_at entries n) ≡ released (use_in (entry_at before n))
  pub left : (n : ℕ) → number ≤ n → entry_at entries n ≡ entry_at before n
  pub labelled : (n : ℕ) → n < number → labels_at directory n ≡ labels_of false (entry_at entries n)

abbrev pub invariant-release : goal.invariant-release
invariant-release l = IsReleasedBelow l.number l.initial.entries l.entries l.directory
