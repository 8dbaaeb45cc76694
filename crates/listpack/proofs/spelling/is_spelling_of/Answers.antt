use Rattle.std.proofs.Common.{◌++◌, List, ℕ, sym, ap, ◌∙◌, subst}
use Rattle.std.specs.Prelude.{IsTrue}
use Rattle.std.proofs.lemmas.Slice.Eq.{bytes_eq-Decides}
use Rattle.listpack.proofs.Written.{begun, not_begun}
use Rattle.listpack.proofs.spelling.is_spelling_of.Goals as goal

pub returns-in-Some : goal.returns-in-Some
returns-in-Some c =
    let bytes = c.args.bytes.now in
    let head = c.as_slice.result.now in
    let content = c.spell-head.result.1.now in
    let rest = c.in-Some.rest.now in
    let cut = c.in-Some.ensures.cases in
    let both = begun bytes head content rest cut.0 cut.1 in
    let whole = ap (λ (x : List ℕ). x ++ content) c.as_slice.ensures ∙ c.spell-head.ensures.bytes in
    let equal = bytes_eq-Decides rest content in (
      (λ t. both.0 (equal.0 (subst IsTrue c.eq.ensures t)) ∙ whole),
      (λ is. subst IsTrue (sym c.eq.ensures) (equal.1 (both.1 (is ∙ sym whole)))),
    )

pub returns-in-None : goal.returns-in-None
returns-in-None c =
    let content = c.spell-head.result.1.now in
    let whole = ap (λ (x : List ℕ). x ++ content) c.as_slice.ensures ∙ c.spell-head.ensures.bytes in (
      (λ t. absurd cc),
      (λ is. absurd (not_begun c.args.bytes.now c.as_slice.result.now content c.in-None.ensures.cases (is ∙ sym whole))),
    )
