-- What a match says of the pattern's first byte.
use Rattle.std.proofs.Common.{◌≡◌, ◌≢◌, ℕ, ◌<◌, true, List, [], ◌∷◌, length, drop, get_or, refl, sym, subst, inl, inr, arith}
use Rattle.glob.specs.Class.{class_takes, behind_class}
use Rattle.glob.specs.Pattern.{Matches, empty, star, question, escaped, last_backslash, class, plain}
use Rattle.std.proofs.lemmas.Bool.{cases_eq}

pub no_bytes_left : (byte : ℕ) (left : List ℕ) → ¬ (Matches [] (byte ∷ left))
no_bytes_left byte left m = elim m [ ]

pub empty_text : (t : List ℕ) → Matches [] t → t ≡ []
empty_text _ empty = refl

pub question_inv : (rest t : List ℕ) → Matches (63 ∷ rest) t → (0 < length t) × Matches rest (drop 1 t)
question_inv rest _ (question _ left byte m) = (omega arith, m)
question_inv rest _ (plain _ left byte p m) = absurd (p.no_question refl)

pub escaped_inv : (y : ℕ) (rest t : List ℕ) → Matches (92 ∷ y ∷ rest) t → (0 < length t) × (get_or t 0 0 ≡ y) × Matches rest (drop 1 t)
escaped_inv y rest _ (escaped _ left byte m) = (omega arith, refl, m)
escaped_inv y rest _ (plain _ left byte p m) = absurd (p.no_backslash refl)

pub class_inv : (body t : List ℕ) → Matches (91 ∷ body) t → (0 < length t) × (class_takes body (get_or t 0 0) ≡ true) × Matches (behind_class body) (drop 1 t)
class_inv body _ (class _ left byte takes m) = (omega arith, takes, m)
class_inv body _ (plain _ left byte p m) = absurd (p.no_bracket refl)

-- a byte that matches itself: a plain one, or a last backslash
pub record IsItself (x : ℕ) (rest : List ℕ) : Type 0 where
  pub no_star : x ≢ 42
  pub no_question : x ≢ 63
  pub no_bracket : x ≢ 91
  pub last : x ≡ 92 → length rest ≡ 0

pub itself_inv : (x : ℕ) (rest t : List ℕ) → IsItself x rest → Matches (x ∷ rest) t → (0 < length t) × (get_or t 0 0 ≡ x) × Matches rest (drop 1 t)
itself_inv _ rest _ is (star _ taken left m) = absurd (is.no_star refl)
itself_inv _ rest _ is (question _ left byte m) = absurd (is.no_question refl)
itself_inv _ _ _ is (escaped pattern left byte m) = absurd (omega (arith, is.last refl))
itself_inv _ _ _ is last_backslash = (omega arith, refl, empty)
itself_inv _ rest _ is (class _ left byte takes m) = absurd (is.no_bracket refl)
itself_inv _ rest _ is (plain _ left byte p m) = (omega arith, refl, m)

last_one : (rest left : List ℕ) → length rest ≡ 0 → Matches rest left → Matches (92 ∷ rest) (92 ∷ left)
last_one [] left none m = subst (λ t. Matches (92 ∷ []) (92 ∷ t)) (sym (empty_text left m)) last_backslash
last_one (x ∷ xs) left none m = absurd (omega arith)

pub itself_taken : (x : ℕ) (rest left : List ℕ) → IsItself x rest → Matches rest left → Matches (x ∷ rest) (x ∷ left)
itself_taken x rest left is m =
    elim (cases_eq x 92) [
      | inl same ↦ subst (λ b. Matches (b ∷ rest) (b ∷ left)) (sym same) (last_one rest left (is.last same) m)
      | inr other ↦ plain rest left x (record { no_star = is.no_star; no_question = is.no_question; no_bracket = is.no_bracket; no_backslash = other }) m
    ]
