use Rattle.std.proofs.Common.{◌≡◌, ◌∙◌, ◌<◌, ℕ, length, length-set, ap, sym, arith, cond, eqb, inl, inr, slice_set, false}
use Rattle.std.specs.Prelude.{◌≢◌}
use Rattle.std.proofs.lemmas.Bool.{cases_eq, cond-true, eq-eqb}
use Rattle.std.proofs.lemmas.Grind.{common_steps}
use Rattle.std.proofs.lemmas.List.{get_or_read}
use Rattle.blocks.specs.Slabs.{released}
use Rattle.class_heap.specs.declared.entry.Entry.TheVariants.{Vacant}
use Rattle.class_heap.specs.Entries.{use_in, block_in, entry_at, labels_of}
use Rattle.class_heap.proofs.Keeping.{block_step}
use Rattle.class_heap.proofs.Placings.{change_set}
use Rattle.class_heap.proofs.marks.release_all.Goals as goal

pick_other : (a b x y : ℕ) → a ≢ b → cond (eqb a b) x y ≡ y
pick_other a b x y h = grind (arith, common_steps, h)

pub release-preserved : goal.release-preserved
release-preserved c =
    let i = c.release.invariant in let n' = c.release.number in let long = i.long in let there : n' < length c.release.entries = omega (arith, long) in
    let e = c.release-in-release.new.self in
    let is = sym c.index-entries-number.is ∙ get_or_read c.release.entries _ _ there c.index-entries-number.is Vacant in
    let change = change_set c.release.entries n' e there in let bound = c.set.ensures.bound in let was = i.bound in
    record {
      long = length-set c.release.entries n' e ∙ i.long;
      bound = bound ∙ was;
      blocks = λ n slot. block_step c.release.entries n' e there (λ s. c.release-in-release.ensures.blocks s ∙ ap (λ x. block_in x s) is) n slot ∙ i.blocks n slot;
      done = λ n less. elim (cases_eq n n') [
        | inl same ↦ ap (λ k. use_in (entry_at (slice_set c.release.entries n' e) k)) same
            ∙
            (ap use_in change.here ∙
            (c.release-in-release.ensures.released ∙
            (ap (λ x. released (use_in x)) is ∙ (ap (λ x. released (use_in x)) (i.left n' (omega arith)) ∙ ap (λ k. released (use_in (entry_at c.args.entries.now k))) (sym same)))))
        | inr other ↦ ap use_in (change.others n other) ∙ i.done n (omega (arith, less, other))
      ];
      left = λ n more. change.others n (λ q. absurd (omega (arith, q, more))) ∙ i.left n (omega (arith, more));
      labelled = λ n less. elim (cases_eq n n') [
        | inl same ↦ c.set.ensures.labels n (omega (arith, less, bound, was, there, long))
            ∙
            (cond-true (eqb n n') _ _ (eq-eqb n n' same) ∙ (c.labels-labels.ensures ∙ ap (labels_of false) (sym change.here ∙ ap (entry_at (slice_set c.release.entries n' e)) (sym same))))
        | inr other ↦ c.set.ensures.labels n (omega (arith, less, bound, was, there, long))
            ∙ (pick_other n n' _ _ other ∙ (i.labelled n (omega (arith, less, other)) ∙ ap (labels_of false) (sym (change.others n other))))
      ];
    }
