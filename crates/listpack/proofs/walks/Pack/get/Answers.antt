use Rattle.std.proofs.Common.{◌≡◌, ℕ, ap, sym, subst, ◌∙◌, get_or, List, arith}
use Rattle.std.specs.Prelude.{IsTrue}
use Rattle.listpack.specs.Element.{is_number, IsNumberByte}
use Rattle.listpack.proofs.Offsets.{length_texts, first_byte}
use Rattle.listpack.proofs.walks.Pack.get.Goals as goal

pub returns-clause-number : goal.returns-clause-number
returns-clause-number c =
    let bytes = c.args.self.now.bytes.now in
    let o = c.requires in
    let same = c.spelling_at.ensures.value o.0 o.1 in
    let byte : get_or bytes c.args.at 0 ≡ get_or c.spelling_at.result.now 0 0 =
    ap (λ (k : ℕ). get_or bytes k 0) o.1.1 ∙ first_byte bytes o.0 c.args.self.now.packed (omega (arith, o.1.0, length_texts bytes)) ∙ ap (λ (x : List ℕ). get_or x 0 0) (sym same) in
    let P : ℕ → Type 0 = λ b. (IsTrue (is_number c.element_of.result) → IsNumberByte b) × (IsNumberByte b → IsTrue (is_number c.element_of.result)) in
    subst P (sym byte) c.element_of.ensures.number
