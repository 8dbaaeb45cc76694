use Rattle.std.proofs.Common.{◌∙◌, ◌-◌, sym, ap, refl, length-set, slice_set, slice_index_or, subst, replicate}
use Rattle.std.specs.Prelude.{Some}
use Rattle.std.proofs.lemmas.Bool.{false≢true}
use Rattle.std.proofs.lemmas.List.{get_or_read}
use Rattle.class_heap.specs.declared.entry.Entry.TheVariants.{Vacant}
use Rattle.class_heap.specs.Entries.{use_in, block_in, fuller, IsRoomFor}
use Rattle.class_heap.specs.Slab.{with_slot}
use Rattle.class_heap.proofs.Heaps.{first_takes}
use Rattle.class_heap.proofs.Placings.{change_set, sound_set, placing, goes_in, room_found, entry_in, margin_in}
use Rattle.class_heap.proofs.heap.ClassHeap.place_in.Goals as goal

pub place-slot-requires : goal.place-slot-requires
place-slot-requires c =
    let s = c.args.self.now in let there = (first_takes s.sound c.args.class c.args.slab c.requires.class c.requires.first).0 in
    subst (λ x. IsRoomFor c.args.len (use_in x)) (sym (get_or_read s.entries.items _ _ there c.index_mut-entry.ensures.value Vacant))
    (room_found s.sound c.args.class c.args.len c.args.slab c.requires.class c.requires.holds c.requires.first)

pub invariant_of-self : goal.invariant_of-self
invariant_of-self c =
    let s = c.args.self.now in let there = (first_takes s.sound c.args.class c.args.slab c.requires.class c.requires.first).0 in let e = c.place-slot.new.self in
    let more = c.place-slot.ensures.more ∙ ap (λ x. fuller (use_in x)) (get_or_read s.entries.items _ _ there c.index_mut-entry.ensures.value Vacant) in
    record {
      sound = sound_set s.sound c.args.slab e c.labels-labels.result c.set.new.self (slice_set s.margins c.args.class (slice_index_or s.margins c.args.class 0 - 1)) there
          c.labels-labels.ensures c.set.ensures.bound c.set.ensures.labels
          (entry_in s.sound c.args.class c.args.slab e c.requires.class c.requires.first more)
          (length-set s.margins c.args.class (slice_index_or s.margins c.args.class 0 - 1) ∙ s.sound.classes)
          (margin_in s.sound c.args.class c.args.slab e c.requires.class c.requires.first c.requires.room more);
    }

pub invariant_of-self-else-self : goal.invariant_of-self-else-self
invariant_of-self-else-self c =
    let s = c.args.self.now in let there = (first_takes s.sound c.args.class c.args.slab c.requires.class c.requires.first).0 in let e = c.place-slot.new.self in
    let more = c.place-slot.ensures.more ∙ ap (λ x. fuller (use_in x)) (get_or_read s.entries.items _ _ there c.index_mut-entry.ensures.value Vacant) in
    record {
      sound = sound_set s.sound c.args.slab e c.labels-labels.result c.set.new.self s.margins there c.labels-labels.ensures c.set.ensures.bound c.set.ensures.labels
          (entry_in s.sound c.args.class c.args.slab e c.requires.class c.requires.first more) s.sound.classes
          (λ open'. absurd (false≢true (sym c.if-self.false ∙ open')));
    }

pub returns-then-self : goal.returns-then-self
returns-then-self c =
    let s = c.args.self.now in let there = (first_takes s.sound c.args.class c.args.slab c.requires.class c.requires.first).0 in let e = c.place-slot.new.self in
    let is = get_or_read s.entries.items _ _ there c.index_mut-entry.ensures.value Vacant in let old = s.entries.items in let new = slice_set old c.args.slab e in
    let change = change_set old c.args.slab e there in
    placing old old new e (record { slab = c.args.slab; slot = c.place-slot.result }) c.args.len refl (λ n. refl) change
    (ap (λ x. block_in x c.place-slot.result) (sym is) ∙ c.place-slot.ensures.fresh)
    (λ slot. c.place-slot.ensures.placed slot ∙ ap (λ x. with_slot (block_in x) c.place-slot.result (Some (replicate c.args.len 0)) slot) is)
    (goes_in s.sound new e c.args.class c.args.len c.args.slab c.place-slot.result c.requires.class c.requires.holds c.requires.first c.requires.room change
    (c.place-slot.ensures.more ∙ ap (λ x. fuller (use_in x)) is))

pub returns-else-self : goal.returns-else-self
returns-else-self c =
    let s = c.args.self.now in let there = (first_takes s.sound c.args.class c.args.slab c.requires.class c.requires.first).0 in let e = c.place-slot.new.self in
    let is = get_or_read s.entries.items _ _ there c.index_mut-entry.ensures.value Vacant in let old = s.entries.items in let new = slice_set old c.args.slab e in
    let change = change_set old c.args.slab e there in
    placing old old new e (record { slab = c.args.slab; slot = c.place-slot.result }) c.args.len refl (λ n. refl) change
    (ap (λ x. block_in x c.place-slot.result) (sym is) ∙ c.place-slot.ensures.fresh)
    (λ slot. c.place-slot.ensures.placed slot ∙ ap (λ x. with_slot (block_in x) c.place-slot.result (Some (replicate c.args.len 0)) slot) is)
    (goes_in s.sound new e c.args.class c.args.len c.args.slab c.place-slot.result c.requires.class c.requires.holds c.requires.first c.requires.room change
    (c.place-slot.ensures.more ∙ ap (λ x. fuller (use_in x)) is))
