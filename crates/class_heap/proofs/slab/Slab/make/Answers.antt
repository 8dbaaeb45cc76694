use Rattle.std.proofs.Common.{◌≡◌, ◌∙◌, ◌≤◌, ◌+◌, ◌∷◌, [], ap, arith, length, length-append, refl, subst, sym}
use Rattle.class_heap.proofs.Chains.{IsFresh, fresh_more}
use Rattle.class_heap.proofs.Parts.{sound_fresh, fresh_none}
use Rattle.class_heap.proofs.slab.Slab.make.Goals as goal

pub invariant_of-result : goal.invariant_of-result
invariant_of-result c =
    let i = c.fill.invariant in
    let whole : c.fill.slot ≡ c.slots_in-count.result = omega arith in
    let long = i.long in
    let fresh : IsFresh c.fill.words.items = record { linked = λ k lt. i.linked k (omega (arith, lt, long)) } in
    record {
      sound = sound_fresh c.args.class c.size_in.result c.fill.words.items c.in_ok-mem.field-0.mem c.requires c.size_in.ensures.size c.in_ok-mem.field-0.long
          (long ∙ (whole ∙ c.slots_in-count.ensures.slots)) fresh;
    }

pub returns-clause-empty : goal.returns-clause-empty
returns-clause-empty c =
    let i = c.fill.invariant in let long = i.long in
    let fresh : IsFresh c.fill.words.items = record { linked = λ k lt. i.linked k (omega (arith, lt, long)) } in
    λ slot. fresh_none c.size_in.result c.fill.words.items c.in_ok-mem.field-0.mem fresh slot

pub overflow_add-slot : goal.overflow_add-slot
overflow_add-slot c = omega (arith, c.slots_in-count.ensures.most)

pub overflow_add-push_reserved : goal.overflow_add-push_reserved
overflow_add-push_reserved c = omega (arith, c.slots_in-count.ensures.most)

pub overflow_cast-slot : goal.overflow_cast-slot
overflow_cast-slot c = omega (arith, c.slots_in-count.ensures.most)

pub fill-preserved : goal.fill-preserved
fill-preserved c =
    let i = c.fill.invariant in
    let long = i.long in
    record {
      long = omega (arith, ap length c.push_reserved.ensures.items, length-append c.fill.words.items ((32769 + c.fill.slot) ∷ []), long);
      room = subst (λ n. c.slots_in-count.result ≤ n) (sym c.push_reserved.ensures.capacity) i.room;
      linked = fresh_more c.fill.words.items c.push_reserved.new.self.items c.fill.slot _ c.push_reserved.ensures.items long refl i.linked;
    }
