use Rattle.std.proofs.Common.{◌≡◌, ◌+◌, ◌<◌, ◌≤◌, ℕ, List, length, vec_capacity}
use Rattle.class_heap.specs.Slots.{word_at}
use Rattle.class_heap.proofs.slab.Slab.make.Given as goal

pub record IsLinked (slot count capacity : ℕ) (words : List ℕ) : Type 0 where
  pub long : length words ≡ slot
  pub room : count ≤ capacity
  pub linked : (k : ℕ) → k < slot → word_at words k ≡ 32769 + k

abbrev pub invariant-fill : goal.invariant-fill
invariant-fill l = IsLinked l.slot l.count (vec_capacity l.words) l.words.items
