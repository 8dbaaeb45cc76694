use Rattle.std.proofs.Common.{◌≡◌, ◌∙◌, ◌+◌, sym, ap, arith, length-set, slice_set, slice_index_or}
use Rattle.std.specs.Prelude.{Some, None}
use Rattle.std.proofs.lemmas.Bool.{false≢true}
use Rattle.std.proofs.lemmas.List.{get_or_read}
use Rattle.class_heap.specs.declared.entry.Entry.TheVariants.{Vacant}
use Rattle.class_heap.specs.Classes.{slots_bounds}
use Rattle.class_heap.specs.Entries.{use_in, block_in, entry_at, class_in}
use Rattle.class_heap.specs.Laws.{slab_there, class_few}
use Rattle.class_heap.specs.Placing.{returned}
use Rattle.class_heap.specs.Slab.{with_slot}
use Rattle.class_heap.proofs.Descent.{few_numbers}
use Rattle.class_heap.proofs.Placings.{sound_set}
use Rattle.class_heap.proofs.Returns.{entry_given, margin_given, margin_alone, margin_most, given_blocks, given_step, given_calm}
use Rattle.class_heap.proofs.heap.ClassHeapBlockStore.give_back.Goals as goal

pub overflow_add-self : goal.overflow_add-self
overflow_add-self c =
    let s = c.args.self.now in let d = s.directory in let f = few_numbers d.bound _ d.nodes.items d.sound in let b = s.sound.bound in
    let is = get_or_read s.entries.items _ _ (slab_there s.entries.items c.args.at.slab c.args.at.slot c.requires) c.index_mut-entry.ensures.value Vacant in
    let of_class : class_in (use_in (entry_at s.entries.items c.args.at.slab)) ≡ Some c.in-Some.class = ap (λ e. class_in (use_in e)) (sym is) ∙ (sym c.class-class.ensures ∙ c.in-Some.is) in
    let lt = class_few (entry_at s.entries.items c.args.at.slab) c.in-Some.class of_class in
    let m = margin_most s.sound c.if-self.true (omega (arith, f, b)) c.in-Some.class lt (slots_bounds c.in-Some.class lt).1 in
    omega (arith, m)

pub invariant_of-self : goal.invariant_of-self
invariant_of-self c =
    let s = c.args.self.now in let there = slab_there s.entries.items c.args.at.slab c.args.at.slot c.requires in
    let is = get_or_read s.entries.items _ _ there c.index_mut-entry.ensures.value Vacant in let e = c.give_back.new.self in
    let left = c.give_back.ensures.left ∙ ap (λ x. returned (use_in x)) is in
    let of_class : class_in (use_in (entry_at s.entries.items c.args.at.slab)) ≡ Some c.in-Some.class = ap (λ x. class_in (use_in x)) (sym is) ∙ (sym c.class-class.ensures ∙ c.in-Some.is) in
    let margins = slice_set s.margins c.in-Some.class (slice_index_or s.margins c.in-Some.class 0 + 1) in
    record {
      sound = sound_set s.sound c.args.at.slab e c.labels-labels.result c.set.new.self margins there c.labels-labels.ensures c.set.ensures.bound c.set.ensures.labels
          (entry_given s.sound c.args.at.slab e left) (length-set s.margins c.in-Some.class (slice_index_or s.margins c.in-Some.class 0 + 1) ∙ s.sound.classes)
          (λ open' k within. margin_given s.margins (entry_at s.entries.items c.args.at.slab) e c.in-Some.class c.args.at.slot s.sound.classes of_class c.requires left k within);
    }

pub invariant_of-self-in_default : goal.invariant_of-self-in_default
invariant_of-self-in_default c =
    let s = c.args.self.now in let there = slab_there s.entries.items c.args.at.slab c.args.at.slot c.requires in
    let is = get_or_read s.entries.items _ _ there c.index_mut-entry.ensures.value Vacant in let e = c.give_back.new.self in
    let left = c.give_back.ensures.left ∙ ap (λ x. returned (use_in x)) is in
    record {
      sound = sound_set s.sound c.args.at.slab e c.labels-labels.result c.set.new.self s.margins there c.labels-labels.ensures c.set.ensures.bound c.set.ensures.labels
          (entry_given s.sound c.args.at.slab e left) s.sound.classes
          (λ open' k within. margin_alone s.margins (entry_at s.entries.items c.args.at.slab) e
          (λ class of_class. c.in_default.not-Some class (c.class-class.ensures ∙ (ap (λ x. class_in (use_in x)) is ∙ of_class))) left k within);
    }

pub invariant_of-self-else-self : goal.invariant_of-self-else-self
invariant_of-self-else-self c =
    let s = c.args.self.now in let there = slab_there s.entries.items c.args.at.slab c.args.at.slot c.requires in
    let is = get_or_read s.entries.items _ _ there c.index_mut-entry.ensures.value Vacant in let e = c.give_back.new.self in
    let left = c.give_back.ensures.left ∙ ap (λ x. returned (use_in x)) is in
    record {
      sound = sound_set s.sound c.args.at.slab e c.labels-labels.result c.set.new.self s.margins there c.labels-labels.ensures c.set.ensures.bound c.set.ensures.labels
          (entry_given s.sound c.args.at.slab e left) s.sound.classes
          (λ open'. absurd (false≢true (sym c.if-self.false ∙ open')));
    }

pub returns-in-Some-clause-ended : goal.returns-in-Some-clause-ended
returns-in-Some-clause-ended c =
    let s = c.args.self.now in let is = get_or_read s.entries.items _ _ (slab_there s.entries.items c.args.at.slab c.args.at.slot c.requires) c.index_mut-entry.ensures.value Vacant in
    given_blocks s.entries.items c.args.at c.give_back.new.self c.requires (λ slot. c.give_back.ensures.ended slot ∙ ap (λ x. with_slot (block_in x) c.args.at.slot None slot) is)

pub returns-in-Some-clause-step : goal.returns-in-Some-clause-step
returns-in-Some-clause-step c =
    let s = c.args.self.now in let is = get_or_read s.entries.items _ _ (slab_there s.entries.items c.args.at.slab c.args.at.slot c.requires) c.index_mut-entry.ensures.value Vacant in
    given_step s.passing s.entries.items c.args.at c.give_back.new.self c.requires (λ slot. c.give_back.ensures.ended slot ∙ ap (λ x. with_slot (block_in x) c.args.at.slot None slot) is)
    (c.give_back.ensures.left ∙ ap (λ x. returned (use_in x)) is)

pub returns-in-Some-clause-calm : goal.returns-in-Some-clause-calm
returns-in-Some-clause-calm c =
    let s = c.args.self.now in let is = get_or_read s.entries.items _ _ (slab_there s.entries.items c.args.at.slab c.args.at.slot c.requires) c.index_mut-entry.ensures.value Vacant in
    given_calm s.passing s.entries.items c.args.at c.give_back.new.self c.requires (c.give_back.ensures.left ∙ ap (λ x. returned (use_in x)) is)

pub returns-in_default-clause-calm : goal.returns-in_default-clause-calm
returns-in_default-clause-calm c =
    let s = c.args.self.now in let is = get_or_read s.entries.items _ _ (slab_there s.entries.items c.args.at.slab c.args.at.slot c.requires) c.index_mut-entry.ensures.value Vacant in
    given_calm s.passing s.entries.items c.args.at c.give_back.new.self c.requires (c.give_back.ensures.left ∙ ap (λ x. returned (use_in x)) is)

pub returns-in_default-clause-step : goal.returns-in_default-clause-step
returns-in_default-clause-step c =
    let s = c.args.self.now in let is = get_or_read s.entries.items _ _ (slab_there s.entries.items c.args.at.slab c.args.at.slot c.requires) c.index_mut-entry.ensures.value Vacant in
    given_step s.passing s.entries.items c.args.at c.give_back.new.self c.requires (λ slot. c.give_back.ensures.ended slot ∙ ap (λ x. with_slot (block_in x) c.args.at.slot None slot) is)
    (c.give_back.ensures.left ∙ ap (λ x. returned (use_in x)) is)

pub returns-else-self-clause-ended : goal.returns-else-self-clause-ended
returns-else-self-clause-ended c =
    let s = c.args.self.now in let is = get_or_read s.entries.items _ _ (slab_there s.entries.items c.args.at.slab c.args.at.slot c.requires) c.index_mut-entry.ensures.value Vacant in
    given_blocks s.entries.items c.args.at c.give_back.new.self c.requires (λ slot. c.give_back.ensures.ended slot ∙ ap (λ x. with_slot (block_in x) c.args.at.slot None slot) is)

pub returns-else-self-clause-step : goal.returns-else-self-clause-step
returns-else-self-clause-step c =
    let s = c.args.self.now in let is = get_or_read s.entries.items _ _ (slab_there s.entries.items c.args.at.slab c.args.at.slot c.requires) c.index_mut-entry.ensures.value Vacant in
    given_step s.passing s.entries.items c.args.at c.give_back.new.self c.requires (λ slot. c.give_back.ensures.ended slot ∙ ap (λ x. with_slot (block_in x) c.args.at.slot None slot) is)
    (c.give_back.ensures.left ∙ ap (λ x. returned (use_in x)) is)
