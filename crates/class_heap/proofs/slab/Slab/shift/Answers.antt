use Rattle.std.proofs.Common.{arith, ap, ◌∙◌}
use Rattle.class_heap.specs.Slots.{block_in_slot}
use Rattle.class_heap.proofs.Parts.{place_fits, put_over}
use Rattle.class_heap.proofs.slab.Slab.shift.Goals as goal

pub overflow_add-start : goal.overflow_add-start
overflow_add-start c = (let f = place_fits c.args.self.now.sound c.args.slot c.args.from c.args.count c.requires.live c.requires.inside in omega (arith, f))

pub overflow_add-start-2 : goal.overflow_add-start-2
overflow_add-start-2 c = (let f = place_fits c.args.self.now.sound c.args.slot c.args.to c.args.count c.requires.live c.requires.room in omega (arith, f))

pub shift-requires-clause-from : goal.shift-requires-clause-from
shift-requires-clause-from c = place_fits c.args.self.now.sound c.args.slot c.args.from c.args.count c.requires.live c.requires.inside

pub shift-requires-clause-room : goal.shift-requires-clause-room
shift-requires-clause-room c = place_fits c.args.self.now.sound c.args.slot c.args.to c.args.count c.requires.live c.requires.room

pub returns-clause-shifted : goal.returns-clause-shifted
returns-clause-shifted c = λ other.
    let s = c.args.self.now in
    ap (λ m. block_in_slot s.size s.words.items m other) c.shift.ensures
    ∙ put_over s.sound c.args.slot c.args.from c.args.to c.args.count c.requires.live c.requires.inside c.requires.room other
