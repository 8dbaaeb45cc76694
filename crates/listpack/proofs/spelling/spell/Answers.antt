use Rattle.std.proofs.Common.{◌++◌, ℕ, List, ap, sym, ◌∙◌, rules}
use Rattle.std.specs.Prelude.{FitsSigned, Some, None}
use Rattle.std.specs.Int.{w64}
use Rattle.std.proofs.lemmas.List.{append-nil}
use Rattle.std.proofs.lemmas.Int.{to_z-of_z}
use Rattle.int_text.proofs.NumberOf.{reads_number_of}
use Rattle.listpack.specs.Writing.{number_spelling}
use Rattle.listpack.proofs.Writings.{spelling_as}
use Rattle.listpack.proofs.spelling.spell.Goals as goal

pub returns-in-Some-clause-bytes : goal.returns-in-Some-clause-bytes
returns-in-Some-clause-bytes c =
    let fits : FitsSigned w64 c.in-Some.n = search rules in
    append-nil _ ∙ c.number_head.ensures ∙ ap number_spelling (to_z-of_z w64 c.in-Some.n fits)
    ∙ sym (spelling_as c.args.element.now (Some c.in-Some.n) (reads_number_of c.args.element.now (Some c.in-Some.n) ((fits, c.in-Some.ensures.number), tt)))

pub returns-in-None-clause-bytes : goal.returns-in-None-clause-bytes
returns-in-None-clause-bytes c =
    ap (λ (x : List ℕ). x ++ c.args.element.now) c.text_head_of.ensures
    ∙ sym (spelling_as c.args.element.now None (reads_number_of c.args.element.now None (tt, c.in-None.ensures.none)))
