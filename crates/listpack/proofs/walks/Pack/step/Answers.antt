use Rattle.std.proofs.Common.{◌≡◌, ◌+◌, ◌<◌, ℕ, List, [], length, get_or, ap, sym, ◌∙◌, arith, inl, inr}
use Rattle.std.proofs.lemmas.Bool.{cases_lt}
use Rattle.std.proofs.lemmas.List.{get_or-map}
use Rattle.listpack.specs.Entry.{text_of}
use Rattle.listpack.specs.Pack.{IsAt, texts, spellings_of}
use Rattle.listpack.proofs.Offsets.{length_texts, offset_end, offset_inside}
use Rattle.listpack.proofs.walks.Pack.step.Goals as goal

told : (bytes s text : List ℕ) (i at : ℕ) → IsAt bytes i at → text ≡ text_of s → s ≡ get_or (spellings_of bytes) i [] → text ≡ get_or (texts bytes) i []
told bytes s text i at here is value = is ∙ ap text_of value ∙ sym (get_or-map text_of (spellings_of bytes) i [] [] (omega (arith, here.0, length_texts bytes)))

pub returns-then-to-self-clause-text : goal.returns-then-to-self-clause-text
returns-then-to-self-clause-text c = λ i here. told c.args.self.now.bytes.now c.spelling_at-spelling.result.now _ i c.args.at here c.element_of-element.ensures.text
    (c.spelling_at-spelling.ensures.value i here)

pub returns-else-to-self-clause-text : goal.returns-else-to-self-clause-text
returns-else-to-self-clause-text c = λ i here. told c.args.self.now.bytes.now c.spelling_at-spelling.result.now _ i c.args.at here c.element_of-element.ensures.text
    (c.spelling_at-spelling.ensures.value i here)

pub returns-then-to-self-clause-place : goal.returns-then-to-self-clause-place
returns-then-to-self-clause-place c = λ i t0.
    let bytes = c.args.self.now.bytes.now in
    let far = c.len_spelled.ensures.next i t0 in
    elim (cases_lt (i + 1) (length (texts bytes))) [
      | inl more ↦ let inside = offset_inside bytes (i + 1) c.args.self.now.packed (omega (arith, length_texts bytes)) in absurd (omega (arith, far, inside))
      | inr none ↦ omega (arith, t0.0, none)
    ]

pub returns-else-to-self-clause-place : goal.returns-else-to-self-clause-place
returns-else-to-self-clause-place c = λ i t0.
    let bytes = c.args.self.now.bytes.now in
    let far = c.len_spelled.ensures.next i t0 in
    elim (cases_lt (i + 1) (length (texts bytes))) [
      | inl more ↦ (more, omega (arith, far))
      | inr none ↦ let end = offset_end bytes (i + 1) c.args.self.now.packed (omega (arith, length_texts bytes)) in absurd (omega (arith, far, end))
    ]

pub returns-else-to-self-clause-offset : goal.returns-else-to-self-clause-offset
returns-else-to-self-clause-offset c = (c.requires.0 + 1, returns-else-to-self-clause-place c c.requires.0 c.requires.1)
