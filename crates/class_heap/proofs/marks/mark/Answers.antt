use Rattle.std.proofs.Common.{◌≤◌, ◌+◌, ◌*◌, ◌-◌, ◌∙◌, ap, sym, subst, sum_by, count_by}
use Rattle.blocks.specs.Slabs.{waiting_in, per_slab}
use Rattle.class_heap.specs.Marks.{IsMarked, uses, holds_at_least}
use Rattle.class_heap.proofs.Keeping.{used_marked, needed_is, needed_marked, enough_slabs, margin_made}
use Rattle.class_heap.proofs.marks.mark.Goals as goal

pub keep_fullest-requires-clause-enough : goal.keep_fullest-requires-clause-enough
keep_fullest-requires-clause-enough c =
    let n = needed_is c.args.class c.args.used c.slots_in-slots.result c.div_ceil-needed.result c.args.entries.now c.requires.class c.requires.used
    c.slots_in-slots.ensures.slots c.div_ceil-needed.ensures in
    subst (λ k. k ≤ count_by (holds_at_least c.args.class 0) (uses c.args.entries.now)) (sym n) (enough_slabs c.args.class c.args.entries.now c.requires.class)

pub returns-clause-marked : goal.returns-clause-marked
returns-clause-marked c =
    let new = c.keep_fullest.new.entries in
    let n = needed_is c.args.class c.args.used c.slots_in-slots.result c.div_ceil-needed.result c.args.entries.now c.requires.class c.requires.used
    c.slots_in-slots.ensures.slots c.div_ceil-needed.ensures in
    subst (λ k. IsMarked c.args.class k new) (n ∙ sym (needed_marked c.args.entries.now new c.keep_fullest.ensures.marking c.args.class)) c.keep_fullest.ensures.marked

pub returns-clause-margin : goal.returns-clause-margin
returns-clause-margin c =
    let new = c.keep_fullest.new.entries in
    let n = needed_is c.args.class c.args.used c.slots_in-slots.result c.div_ceil-needed.result c.args.entries.now c.requires.class c.requires.used
    c.slots_in-slots.ensures.slots c.div_ceil-needed.ensures in
    let m = margin_made c.args.class c.div_ceil-needed.result new c.requires.class c.keep_fullest.ensures.marked.kept
    (n ∙ sym (needed_marked c.args.entries.now new c.keep_fullest.ensures.marking c.args.class)) in
    let u = c.requires.used ∙ sym (used_marked c.args.entries.now new c.keep_fullest.ensures.marking c.args.class) in
    ap (λ p. sum_by (waiting_in c.args.class) (uses new) + (c.div_ceil-needed.result * p - c.args.used)) c.slots_in-slots.ensures.slots
    ∙ (ap (λ q. sum_by (waiting_in c.args.class) (uses new) + (c.div_ceil-needed.result * per_slab c.args.class - q)) u ∙ m)
