-- Writing over a part of a string.
use Rattle.std.proofs.Common.{◌≡◌, ℕ, ◌+◌, ◌-◌, ◌<◌, ◌≤◌, ◌==◌, List, ◌++◌, length, take, drop, replicate, false, sym, ap, ◌∙◌, arith, length-append, length-drop, cond, inl, inr}
use Rattle.std.specs.Prelude.{max}
use Rattle.std.proofs.lemmas.List.{take-append-le, take-replicate, append-nil, take_all, length-take-le, length-replicate}
use Rattle.std.proofs.Math.Seq.{take-append-add}
use Rattle.std.proofs.lemmas.Bool.{ne_eqb, cases_lt}
use Rattle.string_object.specs.Range.{ranged}
use Rattle.plain_model.specs.StringSteps.{written_over}

-- the first bytes, with zero bytes where they are too few
front : (bytes : List ℕ) (at k : ℕ) → at ≤ length bytes + k → take at (bytes ++ replicate k 0) ≡ take at bytes ++ replicate (at - length bytes) 0
front bytes at k room =
    elim (cases_lt (length bytes) at) [
      | inl more ↦
          let n = at - length bytes in
          let e : at ≡ length bytes + n = omega arith in
          ap (λ m. take m (bytes ++ replicate k 0)) e ∙ take-append-add bytes (replicate k 0) n
          ∙ ap (λ l. bytes ++ l) (take-replicate n k 0 (omega arith)) ∙ ap (λ l. l ++ replicate n 0) (sym (take_all at bytes (omega arith)))
      | inr few ↦
          let none : at - length bytes ≡ 0 = omega arith in
          take-append-le at bytes (replicate k 0) few ∙ sym (append-nil (take at bytes)) ∙ ap (λ n. take at bytes ++ replicate n 0) (sym none)
    ]

-- the string object's own words for it
pub ranged_over : (bytes : List ℕ) (at : ℕ) (piece : List ℕ) → 0 < length piece → ranged bytes at piece ≡ written_over bytes at piece
ranged_over bytes at piece some =
    let n : (length piece == 0) ≡ false = ne_eqb (length piece) 0 (λ e. omega arith) in
    let whole = take at bytes ++ replicate (at - length bytes) 0 ++ piece ++ drop (at + length piece) bytes in
    ap (λ b. cond b bytes whole) n ∙ ap (λ l. l ++ piece ++ drop (at + length piece) bytes) (sym (front bytes at at (omega arith)))

pub written_length : (bytes : List ℕ) (at : ℕ) (piece : List ℕ) → length (written_over bytes at piece) ≡ max (length bytes) (at + length piece)
written_length bytes at piece =
    let zero : ℕ = 0 in
    let first = take at (bytes ++ replicate at zero) in
    let f : length first ≡ at = length-take-le at (bytes ++ replicate at zero) (omega (arith, length-append bytes (replicate at zero), length-replicate at zero)) in
    omega (arith, length-append (first ++ piece) (drop (at + length piece) bytes), length-append first piece, length-drop (at + length piece) bytes, f)
