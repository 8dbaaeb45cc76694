use Rattle.class_heap.proofs.Returns.{place_step}
use Rattle.class_heap.proofs.heap.ClassHeapBlockStore.place.Goals as goal

pub returns-in-Some-clause-step : goal.returns-in-Some-clause-step
returns-in-Some-clause-step c = place_step c.place_of.result _ _ _ _ c.args.len c.place_of.ensures.placed c.place_of.ensures.err_blocks c.place_of.ensures.err_slabs

pub returns-in-None-clause-step : goal.returns-in-None-clause-step
returns-in-None-clause-step c = place_step c.place_alone.result _ _ _ _ c.args.len c.place_alone.ensures.placed c.place_alone.ensures.err_blocks c.place_alone.ensures.err_slabs
