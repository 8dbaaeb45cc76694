use Rattle.std.proofs.Common.{◌∙◌, ap, arith, cond, inl, inr, nat_lt, sym}
use Rattle.std.proofs.lemmas.Bool.{cases_eq, cond-true, cond-false, eq-eqb, ne_eqb}
use Rattle.class_heap.specs.Directory.{labels_at}
use Rattle.class_heap.proofs.directory.Directory.wider.Goals as goal

pub copy-preserved : goal.copy-preserved
copy-preserved c =
    let old = c.args.self.now in
    record {
      wide = c.set.ensures.bound ∙ c.copy.invariant.wide;
      copied = λ n less.
          let is = c.set.ensures.labels n (omega (arith, c.set.ensures.bound, c.copy.invariant.wide)) in
          elim (cases_eq n c.copy.number) [
            | inl same ↦ is ∙ cond-true _ _ _ (eq-eqb n c.copy.number same) ∙ c.labels_or.ensures ∙ ap (λ k. cond (nat_lt k old.bound) (labels_at old k) c.args.labels) (sym same)
            | inr other ↦ is ∙ cond-false _ _ _ (ne_eqb n c.copy.number other) ∙ c.copy.invariant.copied n (omega arith)
          ];
    }

pub returns-clause-labels : goal.returns-clause-labels
returns-clause-labels c = λ n less. c.copy.invariant.copied n (omega (arith, less, c.copy.invariant.wide))
