use Rattle.std.proofs.Common.{◌≡◌, ◌∙◌, ◌+◌, cond, ap, sym, subst, arith, rules, take, take_all}
use Rattle.std.specs.Prelude.{Some, None}
use Rattle.std.proofs.lemmas.List.{get_or_read}
use Rattle.blocks.specs.Slabs.{used_in}
use Rattle.class_heap.specs.declared.entry.Entry.TheVariants.{Vacant}
use Rattle.class_heap.specs.Entries.{use_in, entry_at, class_in}
use Rattle.class_heap.specs.Laws.{class_few}
use Rattle.class_heap.specs.Marks.{holds_at_least, filled_in, uses, IsTally}
use Rattle.class_heap.proofs.Tallies.{tally_none, tally_more, tally_same, used_other, filled_other, used_most, filled_most, sum_fits, truth_few}
use Rattle.class_heap.proofs.marks.tally.Goals.{in-Some, in_default}
use Rattle.class_heap.proofs.marks.tally.Goals as goal

pub add-init : goal.add-init
add-init c = record { used = tally_none used_in; filled = tally_none filled_in }

pub bounds-used-class : goal.bounds-used-class
bounds-used-class c = class_few c.entry-item.result c.in-Some.class (sym c.in-Some.ensures)

pub overflow_add-used : goal.overflow_add-used
overflow_add-used c =
    let class = c.in-Some.class in let few = class_few c.entry-item.result class (sym c.in-Some.ensures) in
    omega (arith, sum_fits used_in c.args.entries.now c.add.entry-index class c.used_in.result c.add.used few (used_most class) c.used_in.ensures.most c.requires c.add.invariant.used)

pub bounds-used-class-in-Some : goal.bounds-used-class-in-Some
bounds-used-class-in-Some c = class_few c.entry-item.result c.in-Some.class (sym c.in-Some.ensures)

pub bounds-filled-class : goal.bounds-filled-class
bounds-filled-class c = class_few c.entry-item.result c.in-Some.class (sym c.in-Some.ensures)

pub overflow_add-filled : goal.overflow_add-filled
overflow_add-filled c =
    let class = c.in-Some.class in let few = class_few c.entry-item.result class (sym c.in-Some.ensures) in
    let one : c.from.result ≡ cond c.holds_at_least.result 1 0 = search rules in
    let more = truth_few c.holds_at_least.result c.from.result one in
    omega (
      arith,
      sum_fits filled_in c.args.entries.now c.add.entry-index class c.from.result c.add.filled few (λ part. omega (arith, filled_most class part)) (omega (arith, more)) c.requires
          c.add.invariant.filled,
    )

pub bounds-filled-class-in-Some : goal.bounds-filled-class-in-Some
bounds-filled-class-in-Some c = class_few c.entry-item.result c.in-Some.class (sym c.in-Some.ensures)

pub add-preserved : goal.add-preserved
add-preserved c =
    let entries = c.args.entries.now in let i = c.add.entry-index in let within = c.add-test.true in
    let here : c.entry-item.result ≡ entry_at entries i = get_or_read entries i c.entry-item.result within c.entry-item.is Vacant in
    elim c.match-class.branch [
      | in-Some w ↦
          (let class = w.in-Some.class in
          let of_class : class_in (use_in (entry_at entries i)) ≡ Some class = ap (λ e. class_in (use_in e)) (sym here) ∙ sym w.in-Some.ensures in
          let few = class_few (entry_at entries i) class of_class in
          let one : w.from.result ≡ cond w.holds_at_least.result 1 0 = search rules in
          record {
            used = subst (IsTally used_in (uses (take (i + 1) entries))) (sym w.used-is)
                (tally_more used_in used_other entries i class w.used_in.result c.add.used within few of_class (w.used_in.ensures.used ∙ ap (λ e. used_in class (use_in e)) here)
                c.add.invariant.used);
            filled = subst (IsTally filled_in (uses (take (i + 1) entries))) (sym w.filled-is)
                (tally_more filled_in filled_other entries i class w.from.result c.add.filled within few of_class
                (one ∙ ap (λ t. cond t 1 0) (w.holds_at_least.ensures ∙ ap (λ e. holds_at_least class 1 (use_in e)) here)) c.add.invariant.filled);
          })
      | in_default w ↦
          (let none : class_in (use_in (entry_at entries i)) ≡ None = ap (λ e. class_in (use_in e)) (sym here) ∙ sym w.in_default.ensures in
          record {
            used = subst (IsTally used_in (uses (take (i + 1) entries))) (sym w.used-is) (tally_same used_in used_other entries i c.add.used within none c.add.invariant.used);
            filled = subst (IsTally filled_in (uses (take (i + 1) entries))) (sym w.filled-is) (tally_same filled_in filled_other entries i c.add.filled within none c.add.invariant.filled);
          })
    ]

pub returns-clause-used : goal.returns-clause-used
returns-clause-used c =
    subst (λ es. IsTally used_in (uses es) c.add.used) (take_all c.add.entry-index c.args.entries.now (omega (arith, c.add-test.false))) c.add.invariant.used

pub returns-clause-filled : goal.returns-clause-filled
returns-clause-filled c =
    subst (λ es. IsTally filled_in (uses es) c.add.filled) (take_all c.add.entry-index c.args.entries.now (omega (arith, c.add-test.false))) c.add.invariant.filled
