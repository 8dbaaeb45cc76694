-- The first piece of a pattern.
use Rattle.std.proofs.Common.{◌≡◌, ℕ, ◌+◌, ◌<◌, ◌≤◌, Bool, true, false, cond, ◌==◌, List, [], ◌∷◌, length, drop, get_or, refl, sym, ap, subst, ◌∙◌, add-one, arith, lit<}
use Rattle.glob.specs.Class.{class_takes, behind_class}
use Rattle.glob.specs.Pattern.{Matches, question, escaped, class}
use Rattle.glob.specs.Piece.{TakesByte, IsPiece}
use Rattle.glob.specs.declared.piece.Piece.TheVariants.{Takes, Refuses}
use Rattle.glob.proofs.Rules.{question_inv, escaped_inv, class_inv, IsItself, itself_inv, itself_taken}
use Rattle.std.proofs.lemmas.Bool.{eqb-true, eqb-false}

piece_of : (p : List ℕ) (byte width : ℕ) (b : Bool) → (b ≡ true → TakesByte p byte width) → (b ≡ false → (left : List ℕ) → ¬ (Matches p (byte ∷ left))) → IsPiece p byte (cond b (Takes width) Refuses)
piece_of p byte width true takes refuses = takes refl
piece_of p byte width false takes refuses = refuses refl

pub is_star : (p : List ℕ) → 1 ≤ length p → get_or p 0 0 ≡ 42 → p ≡ 42 ∷ drop 1 p
is_star [] some first = absurd (omega arith)
is_star (x ∷ rest) some first = ap (λ b. b ∷ rest) first

pub question_takes : (rest : List ℕ) (byte : ℕ) → TakesByte (63 ∷ rest) byte 1
question_takes rest byte = record {
  some = lit< tt;
  room = omega arith;
  one_byte = λ t m. question_inv rest t m;
  taken = λ left m. question rest left byte m;
}

escaped_takes : (y : ℕ) (rest : List ℕ) → TakesByte (92 ∷ y ∷ rest) y 2
escaped_takes y rest = record {
  some = lit< tt;
  room = omega arith;
  one_byte = λ t m. let inv = escaped_inv y rest t m in (inv.0, inv.2);
  taken = λ left m. escaped rest left y m;
}

pub escaped_piece : (y : ℕ) (rest : List ℕ) (byte : ℕ) → IsPiece (92 ∷ y ∷ rest) byte (cond (y == byte) (Takes 2) Refuses)
escaped_piece y rest byte =
    piece_of (92 ∷ y ∷ rest) byte 2 (y == byte)
    (λ same. subst (λ b. TakesByte (92 ∷ y ∷ rest) b 2) (eqb-true y byte same) (escaped_takes y rest))
    (λ other left m. eqb-false y byte other (sym (escaped_inv y rest (byte ∷ left) m).1))

pub class_piece : (body : List ℕ) (byte : ℕ) (takes : Bool) (width : ℕ) → takes ≡ class_takes body byte → width ≤ length body → drop width body ≡ behind_class body
    → IsPiece (91 ∷ body) byte (cond takes (Takes (width + 1)) Refuses)
class_piece body byte takes width says room behind =
    let rest : drop (width + 1) (91 ∷ body) ≡ behind_class body = simp add-one behind in
    piece_of (91 ∷ body) byte (width + 1) takes
    (λ yes. record {
      some = omega arith;
      room = omega arith;
      one_byte = λ t m. let inv = class_inv body t m in (inv.0, subst (λ l. Matches l (drop 1 t)) (sym rest) inv.2);
      taken = λ left m. class body left byte (sym says ∙ yes) (subst (λ l. Matches l left) rest m);
    })
    (λ no left m. let inv = class_inv body (byte ∷ left) m in cc)

itself_takes : (x : ℕ) (rest : List ℕ) → IsItself x rest → TakesByte (x ∷ rest) x 1
itself_takes x rest is = record {
  some = lit< tt;
  room = omega arith;
  one_byte = λ t m. let inv = itself_inv x rest t is m in (inv.0, inv.2);
  taken = λ left m. itself_taken x rest left is m;
}

pub itself_piece : (x : ℕ) (rest : List ℕ) (byte : ℕ) → IsItself x rest → IsPiece (x ∷ rest) byte (cond (x == byte) (Takes 1) Refuses)
itself_piece x rest byte is =
    piece_of (x ∷ rest) byte 1 (x == byte)
    (λ same. subst (λ b. TakesByte (x ∷ rest) b 1) (eqb-true x byte same) (itself_takes x rest is))
    (λ other left m. eqb-false x byte other (sym (itself_inv x rest (byte ∷ left) is m).1))

pub last_backslash_piece : (byte : ℕ) → IsPiece (92 ∷ []) byte (cond (byte == 92) (Takes 1) Refuses)
last_backslash_piece byte =
    let is : IsItself 92 [] = record { no_star = λ e. omega arith; no_question = λ e. omega arith; no_bracket = λ e. omega arith; last = λ _. refl } in
    piece_of (92 ∷ []) byte 1 (byte == 92)
    (λ same. subst (λ b. TakesByte (92 ∷ []) b 1) (sym (eqb-true byte 92 same)) (itself_takes 92 [] is))
    (λ other left m. eqb-false byte 92 other (itself_inv 92 [] (byte ∷ left) is m).1)

pub backslash_last : (rest : List ℕ) (byte : ℕ) → length rest < 1 → IsPiece (92 ∷ rest) byte (cond (byte == 92) (Takes 1) Refuses)
backslash_last [] byte none = last_backslash_piece byte
backslash_last (y ∷ rest) byte none = absurd (omega arith)

pub backslash_before : (rest : List ℕ) (byte : ℕ) → 1 ≤ length rest → IsPiece (92 ∷ rest) byte (cond (get_or rest 0 0 == byte) (Takes 2) Refuses)
backslash_before [] byte some = absurd (omega arith)
backslash_before (y ∷ rest) byte some = escaped_piece y rest byte
