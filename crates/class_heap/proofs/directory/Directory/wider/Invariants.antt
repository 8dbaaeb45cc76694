use Rattle.std.proofs.Common.{◌≡◌, ◌<◌, ℕ, cond, nat_lt}
use Rattle.class_heap.specs.declared.directory.Directory.{Directory}
use Rattle.class_heap.specs.Directory.{labels_at}
use Rattle.class_heap.proofs.directory.Directory.wider.Given as goal

pub record IsCopied (old : Directory) (labels bound number : ℕ) (wider : Directory) : Type 0 where
  pub wide : wider.bound ≡ bound
  pub copied : (n : ℕ) → n < number → labels_at wider n ≡ cond (nat_lt n old.bound) (labels_at old n) labels

abbrev pub invariant-copy : goal.invariant-copy
invariant-copy l = IsCopied l.self l.labels l.bound l.number l.wider
