use Rattle.std.proofs.Common.{◌∙◌, ◌<◌, length, length-set, ap, sym, arith}
use Rattle.std.proofs.lemmas.List.{get_or_read}
use Rattle.class_heap.specs.declared.entry.Entry.TheVariants.{Vacant}
use Rattle.class_heap.specs.Entries.{use_in, block_in}
use Rattle.class_heap.specs.Marks.{marked, equal_after}
use Rattle.class_heap.proofs.Keeping.{keep_step, block_step}
use Rattle.class_heap.proofs.marks.keep.Goals as goal

pub mark-preserved : goal.mark-preserved
mark-preserved c =
    let i = c.mark.invariant in
    let long = i.long in let there : c.mark.number < length c.mark.entries = omega (arith, long) in
    let is = sym c.index-entries-number.is ∙ get_or_read c.mark.entries _ _ there c.index-entries-number.is Vacant in
    record {
      long = length-set c.mark.entries c.mark.number c.keep-equal.new.self ∙ i.long;
      blocks = λ n slot. block_step c.mark.entries c.mark.number c.keep-equal.new.self there (λ s. c.keep-equal.ensures.blocks s ∙ ap (λ e. block_in e s) is) n slot ∙ i.blocks n slot;
      marked = keep_step c.args.class c.args.least c.mark.equal c.keep-equal.result c.mark.entries c.mark.number c.keep-equal.new.self there
          (c.keep-equal.ensures.marked ∙ ap (λ e. marked c.args.class c.args.least c.mark.equal (use_in e)) is)
          (c.keep-equal.ensures.left ∙ ap (λ e. equal_after c.args.class c.args.least c.mark.equal (use_in e)) is) ∙ i.marked;
    }
