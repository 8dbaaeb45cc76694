use Rattle.class_heap.proofs.Descent.{IsAbove}
use Rattle.class_heap.proofs.directory.Directory.first.Given as goal

abbrev pub invariant-down : goal.invariant-down
invariant-down l = IsAbove l.self.bound l.self.nodes.items l.self.sound.mended l.label l.level l.node

abbrev pub decreases-down : goal.decreases-down
decreases-down l = l.level
