use Rattle.std.proofs.Common.{◌∙◌, sym, ap}
use Rattle.class_heap.specs.Entries.{block_in}
use Rattle.class_heap.proofs.Parts.{none_left}
use Rattle.class_heap.proofs.entry.Entry.release.Goals as goal

pub returns-then-slab-eq0-clause-blocks : goal.returns-then-slab-eq0-clause-blocks
returns-then-slab-eq0-clause-blocks c = λ slot.
    ap (λ e. block_in e slot) c.vacate.ensures ∙ (sym (none_left c.in-Classed.slab.sound c.if-slab-eq0.true slot) ∙ ap (λ e. block_in e slot) (sym c.in-Classed.is))
