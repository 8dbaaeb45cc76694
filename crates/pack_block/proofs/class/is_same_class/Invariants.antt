use Rattle.std.proofs.Common.{◌<◌, ℕ}
use Rattle.blocks.specs.Slabs.{size_of}
use Rattle.pack_block.proofs.class.is_same_class.Given as goal

abbrev pub invariant-loop-class : goal.invariant-loop-class
invariant-loop-class l = (k : ℕ) → k < l.class → size_of k < l.len
