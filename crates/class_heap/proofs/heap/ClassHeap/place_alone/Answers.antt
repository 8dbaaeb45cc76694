use Rattle.std.proofs.Common.{◌≡◌, ◌∙◌, cond, eqb, ap, refl, replicate, slice_set, rules}
use Rattle.std.specs.Prelude.{Some, None}
use Rattle.class_heap.specs.Entries.{block_in, entry_at}
use Rattle.class_heap.specs.declared.entry.Entry.TheVariants.{Large}
use Rattle.class_heap.proofs.Placings.{change_set, placing, goes_alone, large_slots, sound_alone}
use Rattle.class_heap.proofs.heap.ClassHeap.place_alone.Goals as goal

pub invariant_of-self : goal.invariant_of-self
invariant_of-self c =
    let m = c.vacant.new.self in let v = c.in_ok-slab.ensures.vacant in
    record { sound = sound_alone m.sound c.in_ok-slab.slab c.in_ok-bytes.bytes c.set.new.self v.within v.vacant c.set.ensures.bound c.set.ensures.labels }

pub returns-clause-placed : goal.returns-clause-placed
returns-clause-placed c =
    let m = c.vacant.new.self in let v = c.in_ok-slab.ensures.vacant in let e = Large c.in_ok-bytes.bytes in
    let old = c.args.self.now.entries.items in let new = slice_set m.entries.items c.in_ok-slab.slab e in
    let change = change_set m.entries.items c.in_ok-slab.slab e v.within in
    placing old m.entries.items new e (record { slab = c.in_ok-slab.slab; slot = 0 }) c.args.len c.vacant.ensures.passing c.vacant.ensures.entries change
    (ap (λ x. block_in x 0) v.vacant)
    (λ slot. let zeros : c.in_ok-bytes.bytes.items ≡ replicate c.args.len 0 = search rules in ap (λ b. cond (eqb slot 0) (Some b) None) zeros
    ∙ large_slots (replicate c.args.len 0) (entry_at m.entries.items c.in_ok-slab.slab) slot v.vacant)
    (goes_alone old m.entries.items new e c.args.len c.in_ok-slab.slab c.requires c.vacant.ensures.entries v change refl)
