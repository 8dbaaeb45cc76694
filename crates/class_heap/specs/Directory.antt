-- What a directory says of each number.
use Rattle.std.specs.Prelude.{ℕ, ◌+◌}
use Rattle.class_heap.specs.declared.directory.Directory.{Directory}
use Rattle.class_heap.specs.Tree.{word_of}

-- the labels of a number
abbrev pub labels_at : Directory → ℕ → ℕ
labels_at d n = word_of d.nodes.items (d.bound + n)
