use Rattle.class_heap.proofs.Heaps.{calm_told}
use Rattle.class_heap.proofs.heap.ClassHeapBlockStore.is_calm.Goals as goal

pub returns : goal.returns
returns c = calm_told c.args.self.now.sound c.first.result c.is_none.result c.is_none.ensures c.first.ensures.least c.first.ensures.none
