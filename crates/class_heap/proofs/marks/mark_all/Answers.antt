use Rattle.std.proofs.Common.{refl, arith, ◌∙◌, sym}
use Rattle.class_heap.proofs.Keeping.{marked_more}
use Rattle.class_heap.proofs.Tallies.{used_most, used_stays, filled_stays}
use Rattle.class_heap.proofs.marks.mark_all.Goals as goal

pub classes-init : goal.classes-init
classes-init c = record {
  long = refl;
  blocks = λ n slot. refl;
  same = λ n. refl;
  marked = λ k less. absurd (omega arith);
  unmarked = λ k more. c.requires.unmarked k;
  classes = c.requires.classes;
  margin = λ k less. absurd (omega arith);
}

pub mark-requires-clause-few : goal.mark-requires-clause-few
mark-requires-clause-few c =
    let class = c.classes.class in let sum = c.tally.ensures.used.sum class c.classes-test.true in omega (arith, sum, used_most class c.args.entries.now, c.requires.few)

pub mark-requires-clause-used : goal.mark-requires-clause-used
mark-requires-clause-used c =
    let class = c.classes.class in
    c.tally.ensures.used.sum class c.classes-test.true ∙ sym (used_stays c.args.entries.now c.classes.entries c.classes.invariant.same class)

pub mark-requires-clause-filled : goal.mark-requires-clause-filled
mark-requires-clause-filled c =
    let class = c.classes.class in
    c.tally.ensures.filled.sum class c.classes-test.true ∙ sym (filled_stays c.args.entries.now c.classes.entries c.classes.invariant.same class)

pub mark-requires-clause-unmarked : goal.mark-requires-clause-unmarked
mark-requires-clause-unmarked c = c.classes.invariant.unmarked c.classes.class (omega arith)

pub classes-preserved : goal.classes-preserved
classes-preserved c = marked_more c.classes.class c.args.entries.now c.classes.entries c.mark.new.entries c.classes.margins c.mark.result c.classes-test.true c.classes.invariant
    c.mark.ensures.marking c.mark.ensures.marked c.mark.ensures.margin
