use Rattle.std.proofs.Common.{◌∙◌, ◌+◌, ◌-◌, sym, ap, length-set, slice_set, slice_index_or, replicate}
use Rattle.std.specs.Prelude.{Some}
use Rattle.std.proofs.lemmas.Bool.{false≢true}
use Rattle.class_heap.specs.Entries.{block_in, entry_at}
use Rattle.class_heap.proofs.Placings.{change_set, sound_set, placing, goes_anew, entry_anew, margin_anew, fresh_room, made_one, fresh_slots}
use Rattle.class_heap.proofs.heap.ClassHeap.place_anew.Goals as goal

pub place-slot-requires : goal.place-slot-requires
place-slot-requires c = fresh_room c.in_ok-make.field-0 c.args.class c.args.len c.args.self.now.passing c.in_ok-make.ensures.made c.requires.class c.requires.holds

pub invariant_of-self : goal.invariant_of-self
invariant_of-self c = record { sound = c.args.self.now.sound }

pub invariant_of-self-then-self : goal.invariant_of-self-then-self
invariant_of-self-then-self c =
    let m = c.vacant.new.self in let v = c.in_ok-slab.ensures.vacant in let e = c.place-slot.new.self in
    let is = c.place-slot.ensures.more ∙ made_one c.in_ok-make.field-0 c.args.class c.args.self.now.passing c.in_ok-make.ensures.made in
    let is' = is ∙ ap (λ p. Some (record { class = c.args.class; used = 1; kept = p })) (sym c.vacant.ensures.passing) in
    let change = slice_set m.margins c.args.class (slice_index_or m.margins c.args.class 0 + (c.slots_in.result - 1)) in
    record {
      sound = sound_set m.sound c.in_ok-slab.slab e c.labels-labels.result c.set.new.self change v.within c.labels-labels.ensures c.set.ensures.bound c.set.ensures.labels
          (entry_anew m.passing c.args.class e is') (length-set m.margins c.args.class (slice_index_or m.margins c.args.class 0 + (c.slots_in.result - 1)) ∙ m.sound.classes)
          (λ open'. margin_anew m.margins c.args.class c.slots_in.result (entry_at m.entries.items c.in_ok-slab.slab) e m.sound.classes c.requires.class c.slots_in.ensures.slots v.vacant
          (is' ∙ ap (λ p. Some (record { class = c.args.class; used = 1; kept = p })) open'));
    }

pub invariant_of-self-else-self : goal.invariant_of-self-else-self
invariant_of-self-else-self c =
    let m = c.vacant.new.self in let v = c.in_ok-slab.ensures.vacant in let e = c.place-slot.new.self in
    let is = c.place-slot.ensures.more ∙ made_one c.in_ok-make.field-0 c.args.class c.args.self.now.passing c.in_ok-make.ensures.made in
    let is' = is ∙ ap (λ p. Some (record { class = c.args.class; used = 1; kept = p })) (sym c.vacant.ensures.passing) in
    record {
      sound = sound_set m.sound c.in_ok-slab.slab e c.labels-labels.result c.set.new.self m.margins v.within c.labels-labels.ensures c.set.ensures.bound c.set.ensures.labels
          (entry_anew m.passing c.args.class e is') m.sound.classes
          (λ open'. absurd (false≢true (sym c.if-self.false ∙ open')));
    }

pub returns-then-self-clause-placed : goal.returns-then-self-clause-placed
returns-then-self-clause-placed c =
    let m = c.vacant.new.self in let v = c.in_ok-slab.ensures.vacant in let e = c.place-slot.new.self in
    let old = c.args.self.now.entries.items in let new = slice_set m.entries.items c.in_ok-slab.slab e in
    let is = c.place-slot.ensures.more ∙ made_one c.in_ok-make.field-0 c.args.class c.args.self.now.passing c.in_ok-make.ensures.made in
    let change = change_set m.entries.items c.in_ok-slab.slab e v.within in
    placing old m.entries.items new e (record { slab = c.in_ok-slab.slab; slot = c.place-slot.result }) c.args.len c.vacant.ensures.passing c.vacant.ensures.entries change
    (ap (λ x. block_in x c.place-slot.result) v.vacant)
    (λ slot. c.place-slot.ensures.placed slot ∙ fresh_slots c.in_ok-make.field-0 (entry_at m.entries.items c.in_ok-slab.slab) c.place-slot.result slot (Some (replicate c.args.len 0))
    c.in_ok-make.ensures.empty v.vacant)
    (goes_anew old m.entries.items new e c.args.class c.args.len c.in_ok-slab.slab c.place-slot.result c.requires.class c.requires.holds c.requires.none c.requires.full
    c.vacant.ensures.entries v change is)

pub returns-else-self-clause-placed : goal.returns-else-self-clause-placed
returns-else-self-clause-placed c =
    let m = c.vacant.new.self in let v = c.in_ok-slab.ensures.vacant in let e = c.place-slot.new.self in
    let old = c.args.self.now.entries.items in let new = slice_set m.entries.items c.in_ok-slab.slab e in
    let is = c.place-slot.ensures.more ∙ made_one c.in_ok-make.field-0 c.args.class c.args.self.now.passing c.in_ok-make.ensures.made in
    let change = change_set m.entries.items c.in_ok-slab.slab e v.within in
    placing old m.entries.items new e (record { slab = c.in_ok-slab.slab; slot = c.place-slot.result }) c.args.len c.vacant.ensures.passing c.vacant.ensures.entries change
    (ap (λ x. block_in x c.place-slot.result) v.vacant)
    (λ slot. c.place-slot.ensures.placed slot ∙ fresh_slots c.in_ok-make.field-0 (entry_at m.entries.items c.in_ok-slab.slab) c.place-slot.result slot (Some (replicate c.args.len 0))
    c.in_ok-make.ensures.empty v.vacant)
    (goes_anew old m.entries.items new e c.args.class c.args.len c.in_ok-slab.slab c.place-slot.result c.requires.class c.requires.holds c.requires.none c.requires.full
    c.vacant.ensures.entries v change is)
