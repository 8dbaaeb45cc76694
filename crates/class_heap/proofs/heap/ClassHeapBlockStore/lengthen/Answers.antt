use Rattle.std.proofs.Common.{arith, ap, length}
use Rattle.blocks.proofs.Copies.{bytes_beside, lengthened_by}
use Rattle.blocks.proofs.Live.{live_put_in_live, live_beside_put}
use Rattle.blocks.proofs.Serve.{served_once, served_next, served_then}
use Rattle.blocks.proofs.Written.{length-placed}
use Rattle.class_heap.specs.Heap.{heap_blocks}
use Rattle.class_heap.proofs.Lengthening.{ok_blocks, ok_calm_in_lengthening, ok_served}
use Rattle.class_heap.proofs.heap.ClassHeapBlockStore.lengthen.Goals as goal

pub returns-then-is_none-2-clause-lengthened : goal.returns-then-is_none-2-clause-lengthened
returns-then-is_none-2-clause-lengthened c = ok_blocks c.args.self.now c.lengthen_alone.new.self c.args.at c.args.len c.lengthen_alone.result c.lengthen_alone.ensures.lengthened
    c.requires.live c.requires.longer

pub returns-then-is_none-2-clause-calm : goal.returns-then-is_none-2-clause-calm
returns-then-is_none-2-clause-calm c = ok_calm_in_lengthening c.args.self.now c.lengthen_alone.new.self c.args.at c.args.len c.lengthen_alone.result c.lengthen_alone.ensures.lengthened

pub returns-then-is_none-2-clause-served : goal.returns-then-is_none-2-clause-served
returns-then-is_none-2-clause-served c = ok_served c.args.self.now c.lengthen_alone.new.self c.args.at c.args.len c.lengthen_alone.result c.lengthen_alone.ensures.lengthened
    c.lengthen_alone.ensures.err_blocks c.lengthen_alone.ensures.err_slabs

pub returns-in_err-new-clause-served : goal.returns-in_err-new-clause-served
returns-in_err-new-clause-served c = served_once _ _ c.place.ensures.step

pub copy_block-requires-clause-from_live : goal.copy_block-requires-clause-from_live
copy_block-requires-clause-from_live c = live_beside_put (heap_blocks c.args.self.now) (heap_blocks c.place.new.self) c.in_ok-new.new c.args.at _ c.in_ok-new.ensures.placed c.requires.live

pub copy_block-requires-clause-to_live : goal.copy_block-requires-clause-to_live
copy_block-requires-clause-to_live c = live_put_in_live (heap_blocks c.args.self.now) (heap_blocks c.place.new.self) c.in_ok-new.new _ c.in_ok-new.ensures.placed

pub copy_block-requires-clause-room : goal.copy_block-requires-clause-room
copy_block-requires-clause-room c =
    let m = heap_blocks c.args.self.now in let mid = heap_blocks c.place.new.self in
    let same = bytes_beside m mid c.args.at c.in_ok-new.new _ c.requires.live c.in_ok-new.ensures.fresh c.in_ok-new.ensures.placed in
    omega (arith, ap length same, length-placed m mid c.in_ok-new.new c.args.len c.in_ok-new.ensures.placed, c.requires.longer)

pub give_back-requires : goal.give_back-requires
give_back-requires c = live_beside_put (heap_blocks c.place.new.self) (heap_blocks c.copy_block.new.self) c.in_ok-new.new c.args.at _ c.copy_block.ensures.copied
    (live_beside_put (heap_blocks c.args.self.now) (heap_blocks c.place.new.self) c.in_ok-new.new c.args.at _ c.in_ok-new.ensures.placed c.requires.live)

pub returns-clause-lengthened : goal.returns-clause-lengthened
returns-clause-lengthened c =
    lengthened_by (heap_blocks c.args.self.now) (heap_blocks c.place.new.self) (heap_blocks c.copy_block.new.self) (heap_blocks c.give_back.new.self) c.args.at c.in_ok-new.new c.args.len
    c.requires.live c.in_ok-new.ensures.fresh c.requires.longer c.in_ok-new.ensures.placed c.copy_block.ensures.copied c.give_back.ensures.ended

pub returns-clause-served : goal.returns-clause-served
returns-clause-served c = served_next _ _ _ (served_then _ _ _ (served_once _ _ c.place.ensures.step) c.copy_block.ensures.served) c.give_back.ensures.step
