use Rattle.std.proofs.Common.{sym, ap, ◌∙◌, subst}
use Rattle.std.specs.Prelude.{IsTrue}
use Rattle.std.specs.Int.{w64}
use Rattle.std.proofs.lemmas.Int.{to_z-of_z}
use Rattle.std.proofs.lemmas.Slice.Eq.{bytes_eq-Decides}
use Rattle.listpack.specs.Writing.{number_spelling}
use Rattle.listpack.proofs.spelling.is_spelling_of_number.Goals as goal

pub returns : goal.returns
returns c =
    let whole = c.as_slice.ensures ∙ c.number_head-head.ensures ∙ ap number_spelling (to_z-of_z w64 c.args.n c.ranges.n) in
    let equal = bytes_eq-Decides c.args.bytes.now c.as_slice.result.now in (
      (λ t. equal.0 (subst IsTrue c.eq.ensures t) ∙ whole),
      (λ is. subst IsTrue (sym c.eq.ensures) (equal.1 (is ∙ sym whole))),
    )
