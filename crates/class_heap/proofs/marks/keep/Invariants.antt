use Rattle.std.proofs.Common.{◌≡◌, ◌++◌, ℕ, List, take, drop, length}
use Rattle.class_heap.specs.declared.entry.Entry.{Entry}
use Rattle.class_heap.specs.Entries.{block_in, entry_at}
use Rattle.class_heap.specs.Marks.{all_marked, uses}
use Rattle.class_heap.proofs.marks.keep.Given as goal

pub record IsKeeping (class least first equal number : ℕ) (before entries : List Entry) : Type 0 where
  pub long : length entries ≡ length before
  pub blocks : (n slot : ℕ) → block_in (entry_at entries n) slot ≡ block_in (entry_at before n) slot
  pub marked : take number (uses entries) ++ all_marked class least equal (drop number (uses entries)) ≡ all_marked class least first (uses before)

abbrev pub invariant-mark : goal.invariant-mark
invariant-mark l = IsKeeping l.class l.least l.fn.equal l.equal l.number l.initial.entries l.entries
