use Rattle.class_heap.proofs.Keeping.{IsMarkedBelow}
use Rattle.class_heap.proofs.marks.mark_all.Given as goal

abbrev pub invariant-classes : goal.invariant-classes
invariant-classes l = IsMarkedBelow l.class l.initial.entries l.entries l.margins
