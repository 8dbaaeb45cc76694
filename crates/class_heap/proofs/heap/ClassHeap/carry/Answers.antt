use Rattle.std.proofs.Common.{arith, ◌≡◌, ◌∙◌, ◌<◌, sym, ap, subst, refl, length-set, slice_set}
use Rattle.std.specs.Prelude.{Some, None, IfSome, IsSome}
use Rattle.std.proofs.lemmas.List.{get_or_read}
use Rattle.blocks.specs.Slabs.{per_slab}
use Rattle.class_heap.specs.declared.entry.Entry.TheVariants.{Vacant}
use Rattle.class_heap.specs.Laws.{slab_there, class_few}
use Rattle.class_heap.specs.Entries.{use_in, block_in, entry_at, class_in, fuller}
use Rattle.class_heap.specs.Placing.{returned}
use Rattle.class_heap.specs.Slab.{with_slot}
use Rattle.class_heap.proofs.Moving.{room_waits, moving, changed_twice, target_stays, labels_moved, moved_slabs, sound_moved, moved_blocks}
use Rattle.class_heap.proofs.heap.ClassHeap.carry.Goals as goal

pub unreachable-requires-in-None-first : goal.unreachable-requires-in-None-first
unreachable-requires-in-None-first c =
    let s = c.args.self.now in let es = s.entries.items in let a = c.args.at.slab in let class = c.in-Some.class in
    let there = slab_there es a c.args.at.slot c.requires.live in
    let of_class : class_in (use_in (entry_at es a)) ≡ Some class = ap (λ x. class_in (use_in x)) (sym (get_or_read es _ _ there c.index.ensures Vacant)) ∙ (sym c.class.ensures ∙ c.in-Some.is) in
    room_waits s.sound c.args.at class c.requires.wants of_class (class_few (entry_at es a) class of_class) c.requires.live c.in-None-first.ensures.none

pub carry-slot-requires-clause-live : goal.carry-slot-requires-clause-live
carry-slot-requires-clause-live c =
    let es = c.args.self.now.entries.items in let a = c.args.at.slab in
    let source = c.replace-source.ensures.value ∙ get_or_read es _ _ (slab_there es a c.args.at.slot c.requires.live) c.index_mut.ensures.value Vacant in
    subst (λ x. IsSome (block_in x c.args.at.slot)) (sym source) c.requires.live

pub carry-slot-requires-clause-slab : goal.carry-slot-requires-clause-slab
carry-slot-requires-clause-slab c =
    let s = c.args.self.now in let es = s.entries.items in let a = c.args.at.slab in let n = c.in-Some-first.slab in let class = c.in-Some.class in
    let there = slab_there es a c.args.at.slot c.requires.live in
    let of_class : class_in (use_in (entry_at es a)) ≡ Some class = ap (λ x. class_in (use_in x)) (sym (get_or_read es _ _ there c.index.ensures Vacant)) ∙ (sym c.class.ensures ∙ c.in-Some.is) in
    let m = moving s.sound c.args.at class c.requires.wants of_class (class_few (entry_at es a) class of_class) n c.in-Some-first.ensures.least in
    let source = c.replace-source.ensures.value ∙ get_or_read es _ _ there c.index_mut.ensures.value Vacant in
    subst (λ o. IsSome o) (sym (ap use_in source ∙ m.from_is)) refl

pub give_back-requires : goal.give_back-requires
give_back-requires c =
    let es = c.args.self.now.entries.items in let a = c.args.at.slab in
    let source = c.replace-source.ensures.value ∙ get_or_read es _ _ (slab_there es a c.args.at.slot c.requires.live) c.index_mut.ensures.value Vacant in
    subst (λ x. IsSome (block_in x c.args.at.slot)) (sym source) c.requires.live

pub carry-slot-requires-clause-class : goal.carry-slot-requires-clause-class
carry-slot-requires-clause-class c =
    let s = c.args.self.now in let es = s.entries.items in let a = c.args.at.slab in let n = c.in-Some-first.slab in let class = c.in-Some.class in
    let there = slab_there es a c.args.at.slot c.requires.live in
    let of_class : class_in (use_in (entry_at es a)) ≡ Some class = ap (λ x. class_in (use_in x)) (sym (get_or_read es _ _ there c.index.ensures Vacant)) ∙ (sym c.class.ensures ∙ c.in-Some.is) in
    let lt = class_few (entry_at es a) class of_class in
    let m = moving s.sound c.args.at class c.requires.wants of_class lt n c.in-Some-first.ensures.least in
    let source = c.replace-source.ensures.value ∙ get_or_read es _ _ there c.index_mut.ensures.value Vacant in
    let gap = c.replace-source.new.dest in let long = length-set es a gap in let n_there = m.there in
    let target = get_or_read (slice_set es a gap) _ _ (omega (arith, long, n_there)) c.index_mut-target.ensures.value Vacant ∙ target_stays es a n gap m.apart in
    ap (λ x. class_in (use_in x)) target ∙ (ap class_in m.to_is ∙ (ap Some m.to_class ∙ (sym of_class ∙ sym (ap (λ x. class_in (use_in x)) source))))

pub carry-slot-requires-clause-room : goal.carry-slot-requires-clause-room
carry-slot-requires-clause-room c =
    let s = c.args.self.now in let es = s.entries.items in let a = c.args.at.slab in let n = c.in-Some-first.slab in let class = c.in-Some.class in
    let there = slab_there es a c.args.at.slot c.requires.live in
    let of_class : class_in (use_in (entry_at es a)) ≡ Some class = ap (λ x. class_in (use_in x)) (sym (get_or_read es _ _ there c.index.ensures Vacant)) ∙ (sym c.class.ensures ∙ c.in-Some.is) in
    let lt = class_few (entry_at es a) class of_class in
    let m = moving s.sound c.args.at class c.requires.wants of_class lt n c.in-Some-first.ensures.least in
    let source = c.replace-source.ensures.value ∙ get_or_read es _ _ there c.index_mut.ensures.value Vacant in
    let gap = c.replace-source.new.dest in let long = length-set es a gap in let n_there = m.there in
    let target = get_or_read (slice_set es a gap) _ _ (omega (arith, long, n_there)) c.index_mut-target.ensures.value Vacant ∙ target_stays es a n gap m.apart in
    subst (λ o. IfSome o (λ u. u.used < per_slab u.class)) (sym (ap use_in target ∙ m.to_is)) m.to_room

pub invariant_of-self : goal.invariant_of-self
invariant_of-self c =
    let s = c.args.self.now in let es = s.entries.items in let a = c.args.at.slab in let n = c.in-Some-first.slab in let class = c.in-Some.class in
    let there = slab_there es a c.args.at.slot c.requires.live in
    let of_class : class_in (use_in (entry_at es a)) ≡ Some class = ap (λ x. class_in (use_in x)) (sym (get_or_read es _ _ there c.index.ensures Vacant)) ∙ (sym c.class.ensures ∙ c.in-Some.is) in
    let lt = class_few (entry_at es a) class of_class in
    let m = moving s.sound c.args.at class c.requires.wants of_class lt n c.in-Some-first.ensures.least in
    let source = c.replace-source.ensures.value ∙ get_or_read es _ _ there c.index_mut.ensures.value Vacant in
    let gap = c.replace-source.new.dest in let long = length-set es a gap in let n_there = m.there in
    let target = get_or_read (slice_set es a gap) _ _ (omega (arith, long, n_there)) c.index_mut-target.ensures.value Vacant ∙ target_stays es a n gap m.apart in
    let new = slice_set (slice_set (slice_set es a gap) n c.carry-slot.new.other) a c.give_back.new.self in
    let two = changed_twice es a n gap c.give_back.new.self c.carry-slot.new.other m.apart there n_there in
    let left = c.give_back.ensures.left ∙ ap (λ x. returned (use_in x)) source in
    let more = c.carry-slot.ensures.more ∙ ap (λ x. fuller (use_in x)) target in
    record {
      sound = sound_moved s.sound a n class m lt new c.give_back.new.self c.carry-slot.new.other two left more c.set-2.new.self (c.set-2.ensures.bound ∙ c.set.ensures.bound)
          (labels_moved s.sound a n new c.give_back.new.self c.carry-slot.new.other c.set.new.self c.set-2.new.self c.labels-labels.result c.labels-labels-2.result two m.apart
          c.set.ensures.bound c.set-2.ensures.bound c.labels-labels.ensures c.labels-labels-2.ensures c.set.ensures.labels c.set-2.ensures.labels);
    }

pub returns-clause-fresh : goal.returns-clause-fresh
returns-clause-fresh c =
    let s = c.args.self.now in let es = s.entries.items in let a = c.args.at.slab in let n = c.in-Some-first.slab in let class = c.in-Some.class in
    let there = slab_there es a c.args.at.slot c.requires.live in
    let of_class : class_in (use_in (entry_at es a)) ≡ Some class = ap (λ x. class_in (use_in x)) (sym (get_or_read es _ _ there c.index.ensures Vacant)) ∙ (sym c.class.ensures ∙ c.in-Some.is) in
    let lt = class_few (entry_at es a) class of_class in
    let m = moving s.sound c.args.at class c.requires.wants of_class lt n c.in-Some-first.ensures.least in
    let source = c.replace-source.ensures.value ∙ get_or_read es _ _ there c.index_mut.ensures.value Vacant in
    let gap = c.replace-source.new.dest in let long = length-set es a gap in let n_there = m.there in
    let target = get_or_read (slice_set es a gap) _ _ (omega (arith, long, n_there)) c.index_mut-target.ensures.value Vacant ∙ target_stays es a n gap m.apart in
    ap (λ x. block_in x c.carry-slot.result) (sym target) ∙ c.carry-slot.ensures.fresh

pub returns-clause-moved : goal.returns-clause-moved
returns-clause-moved c =
    let s = c.args.self.now in let es = s.entries.items in let a = c.args.at.slab in let n = c.in-Some-first.slab in let class = c.in-Some.class in
    let there = slab_there es a c.args.at.slot c.requires.live in
    let of_class : class_in (use_in (entry_at es a)) ≡ Some class = ap (λ x. class_in (use_in x)) (sym (get_or_read es _ _ there c.index.ensures Vacant)) ∙ (sym c.class.ensures ∙ c.in-Some.is) in
    let lt = class_few (entry_at es a) class of_class in
    let m = moving s.sound c.args.at class c.requires.wants of_class lt n c.in-Some-first.ensures.least in
    let source = c.replace-source.ensures.value ∙ get_or_read es _ _ there c.index_mut.ensures.value Vacant in
    let gap = c.replace-source.new.dest in let long = length-set es a gap in let n_there = m.there in
    let target = get_or_read (slice_set es a gap) _ _ (omega (arith, long, n_there)) c.index_mut-target.ensures.value Vacant ∙ target_stays es a n gap m.apart in
    let new = slice_set (slice_set (slice_set es a gap) n c.carry-slot.new.other) a c.give_back.new.self in
    let two = changed_twice es a n gap c.give_back.new.self c.carry-slot.new.other m.apart there n_there in
    let left = c.give_back.ensures.left ∙ ap (λ x. returned (use_in x)) source in
    let more = c.carry-slot.ensures.more ∙ ap (λ x. fuller (use_in x)) target in
    moved_blocks es new c.args.at (record { slab = n; slot = c.carry-slot.result }) c.give_back.new.self c.carry-slot.new.other m.apart two
    (λ slot. c.give_back.ensures.ended slot ∙ ap (λ x. with_slot (block_in x) c.args.at.slot None slot) source)
    (λ slot. c.carry-slot.ensures.carried slot ∙
    (ap (λ x. with_slot (block_in x) c.carry-slot.result (block_in c.replace-source.result c.args.at.slot) slot) target
    ∙ ap (λ x. with_slot (block_in (entry_at es n)) c.carry-slot.result (block_in x c.args.at.slot) slot) source))

pub returns-clause-slabs : goal.returns-clause-slabs
returns-clause-slabs c =
    let s = c.args.self.now in let es = s.entries.items in let a = c.args.at.slab in let n = c.in-Some-first.slab in let class = c.in-Some.class in
    let there = slab_there es a c.args.at.slot c.requires.live in
    let of_class : class_in (use_in (entry_at es a)) ≡ Some class = ap (λ x. class_in (use_in x)) (sym (get_or_read es _ _ there c.index.ensures Vacant)) ∙ (sym c.class.ensures ∙ c.in-Some.is) in
    let lt = class_few (entry_at es a) class of_class in
    let m = moving s.sound c.args.at class c.requires.wants of_class lt n c.in-Some-first.ensures.least in
    let source = c.replace-source.ensures.value ∙ get_or_read es _ _ there c.index_mut.ensures.value Vacant in
    let gap = c.replace-source.new.dest in let long = length-set es a gap in let n_there = m.there in
    let target = get_or_read (slice_set es a gap) _ _ (omega (arith, long, n_there)) c.index_mut-target.ensures.value Vacant ∙ target_stays es a n gap m.apart in
    let new = slice_set (slice_set (slice_set es a gap) n c.carry-slot.new.other) a c.give_back.new.self in
    let two = changed_twice es a n gap c.give_back.new.self c.carry-slot.new.other m.apart there n_there in
    let left = c.give_back.ensures.left ∙ ap (λ x. returned (use_in x)) source in
    let more = c.carry-slot.ensures.more ∙ ap (λ x. fuller (use_in x)) target in
    moved_slabs s.sound a n class m lt new c.give_back.new.self c.carry-slot.new.other two left more c.args.at (record { slab = n; slot = c.carry-slot.result }) refl refl
