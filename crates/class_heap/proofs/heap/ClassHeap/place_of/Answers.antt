use Rattle.std.proofs.Common.{◌≡◌, ◌∙◌, ap, arith, subst, true, false}
use Rattle.std.specs.Prelude.{map}
use Rattle.class_heap.specs.Entries.{use_in, entry_at}
use Rattle.class_heap.specs.Placing.{takes}
use Rattle.class_heap.specs.Laws.{slab_read}
use Rattle.class_heap.proofs.Heaps.{none_takes, none_spare}
use Rattle.class_heap.proofs.heap.ClassHeap.place_of.Goals as goal

pub place_anew-requires-in-None-clause-none : goal.place_anew-requires-in-None-clause-none
place_anew-requires-in-None-clause-none c = λ closed n. let s = c.args.self.now in
    subst (λ p. takes p c.args.class (use_in (entry_at s.entries.items n)) ≡ false) closed (none_takes s.sound c.args.class c.requires.class c.in-None.ensures.none n)

pub place_anew-requires-in-None-clause-full : goal.place_anew-requires-in-None-clause-full
place_anew-requires-in-None-clause-full c = λ open'. let s = c.args.self.now in
    let z = none_spare c.args.class (map use_in s.entries.items)
    (λ n. ap (takes true c.args.class) (slab_read true s.entries.items n)
    ∙ subst (λ p. takes p c.args.class (use_in (entry_at s.entries.items n)) ≡ false) open' (none_takes s.sound c.args.class c.requires.class c.in-None.ensures.none n)) in
    omega (arith, z)
