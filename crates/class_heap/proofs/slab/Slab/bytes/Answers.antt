use Rattle.std.proofs.Common.{arith}
use Rattle.std.proofs.lemmas.List.{get_or_read}
use Rattle.class_heap.specs.Live.{part_fits, live_there}
use Rattle.class_heap.proofs.slab.Slab.bytes.Goals as goal

pub part-requires : goal.part-requires
part-requires c =
    (let s = c.args.self.now in let f = part_fits s.sound c.args.slot c.requires in let e =
    get_or_read s.words.items _ _ (live_there s.sound c.args.slot c.requires) c.index.ensures 65535 in omega (arith, f, e))
