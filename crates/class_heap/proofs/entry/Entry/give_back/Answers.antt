use Rattle.std.proofs.Common.{◌∙◌, sym, ap}
use Rattle.std.specs.Prelude.{None}
use Rattle.class_heap.specs.Entries.{block_in}
use Rattle.class_heap.specs.Slab.{with_slot}
use Rattle.class_heap.proofs.Parts.{none_left}
use Rattle.class_heap.proofs.entry.Entry.give_back.Goals as goal

pub returns-then-not-slab-clause-ended : goal.returns-then-not-slab-clause-ended
returns-then-not-slab-clause-ended c = λ other.
    ap (λ e. block_in e other) c.vacate.ensures
    ∙ (sym (none_left c.give_back.new.self.sound c.if-slab-eq0.true other) ∙ (c.give_back.ensures.ended other ∙ ap (λ e. with_slot (block_in e) c.args.slot None other) (sym c.in-Classed.is)))
