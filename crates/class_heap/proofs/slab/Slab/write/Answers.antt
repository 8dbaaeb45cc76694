use Rattle.std.proofs.Common.{◌+◌, ◌*◌, arith, ap, ◌∙◌, sym, subst}
use Rattle.class_heap.specs.Slots.{block_in_slot, IsSlab}
use Rattle.class_heap.proofs.Parts.{written, written_fits, sound_over}
use Rattle.class_heap.proofs.slab.Slab.write.Goals as goal

pub overflow_mul-slot : goal.overflow_mul-slot
overflow_mul-slot c = (let f = written_fits c.args.self.now.sound c.args.slot c.args.from c.args.piece.now c.requires.live c.requires.room in omega (arith, f))

pub overflow_add-slot : goal.overflow_add-slot
overflow_add-slot c = (let f = written_fits c.args.self.now.sound c.args.slot c.args.from c.args.piece.now c.requires.live c.requires.room in omega (arith, f))

pub put-requires : goal.put-requires
put-requires c = written_fits c.args.self.now.sound c.args.slot c.args.from c.args.piece.now c.requires.live c.requires.room

pub returns-clause-written : goal.returns-clause-written
returns-clause-written c = λ other.
    let s = c.args.self.now in
    ap (λ m. block_in_slot s.size s.words.items m other) c.put.ensures ∙ written s.sound c.args.slot c.args.from c.args.piece.now c.requires.live c.requires.room other

pub invariant_of-self : goal.invariant_of-self
invariant_of-self c =
    let s = c.args.self.now in
    record {
      sound = subst (λ m. IsSlab s.class s.size s.used s.head s.words.items m) (sym c.put.ensures)
          (sound_over s.sound (c.args.slot * s.size + c.args.from) c.args.piece.now (written_fits s.sound c.args.slot c.args.from c.args.piece.now c.requires.live c.requires.room));
    }
