-- A text is read up to the byte that ends it.
use Rattle.std.proofs.Common.{◌≡◌, ℕ, zero, suc, ◌<◌, List, [], ◌∷◌, ◌++◌, length, ap, ◌∙◌, refl, arith}
use Rattle.resp_frames.specs.Frames.{IsWithout}
use Rattle.resp_frames.specs.Reading.{Read, Took, Open, Wrong, with_front, read_text}
use Rattle.resp_frames.proofs.Choices.{on_equal, on_other, by_equal}
use Rattle.resp_frames.specs.declared.rule.Rule.TheVariants as rules

pub text_again : (end k : ℕ) (t rest : List ℕ) → IsWithout end t → length t < k → read_text end k (t ++ end ∷ rest) ≡ Took t rest
unfolding read_text
text_again end zero t rest p h = absurd (omega arith)
text_again end (suc k) [] rest p h = on_equal end end (Took [] rest) (with_front end (read_text end k rest)) refl
text_again end (suc k) (b ∷ t) rest p h = on_other b end (Took [] (t ++ end ∷ rest)) (with_front b (read_text end k (t ++ end ∷ rest))) p.0
    ∙ ap (with_front b) (text_again end k t rest p.1 (omega arith))

pub text_open : (end k : ℕ) (t : List ℕ) → IsWithout end t → length t < k → read_text end k t ≡ Open
unfolding read_text
text_open end zero t p h = absurd (omega arith)
text_open end (suc k) [] p h = refl
text_open end (suc k) (b ∷ t) p h = on_other b end (Took [] t) (with_front b (read_text end k t)) p.0 ∙ ap (with_front b) (text_open end k t p.1 (omega arith))

pub text_long : (end k : ℕ) (t rest : List ℕ) → IsWithout end t → length t ≡ k → read_text end k (t ++ rest) ≡ Wrong rules.LineTooLong rest
unfolding read_text
text_long end zero [] rest p h = refl
text_long end zero (b ∷ t) rest p h = absurd (omega arith)
text_long end (suc k) [] rest p h = absurd (omega arith)
text_long end (suc k) (b ∷ t) rest p h = on_other b end (Took [] (t ++ rest)) (with_front b (read_text end k (t ++ rest))) p.0 ∙ ap (with_front b) (text_long end k t rest p.1 (omega arith))

-- what the reading of a text tells
abbrev pub TextIs : ℕ → ℕ → List ℕ → Read (List ℕ) → Type 0
TextIs end k bytes (Took t rest) = (bytes ≡ t ++ end ∷ rest) × IsWithout end t × (length t < k)
TextIs end k bytes Open = Unit {0}
TextIs end k bytes (Wrong rule from) = (t : List ℕ) × (bytes ≡ t ++ from) × IsWithout end t × (length t ≡ k)

front_is : (end k b : ℕ) (bytes : List ℕ) → (b ≡ end → ⊥) → (x : Read (List ℕ)) → TextIs end k bytes x → TextIs end (suc k) (b ∷ bytes) (with_front b x)
front_is end k b bytes ne (Took t rest) h = (ap (λ l. b ∷ l) h.0, (ne, h.1), let low : length t < k = h.2 in omega arith)
front_is end k b bytes ne Open h = tt
front_is end k b bytes ne (Wrong rule from) h = (b ∷ h.0, ap (λ l. b ∷ l) h.1, (ne, h.2), let same : length h.0 ≡ k = h.3 in omega arith)

pub text_is : (end k : ℕ) (bytes : List ℕ) → TextIs end k bytes (read_text end k bytes)
unfolding read_text
text_is end zero bytes = ([], refl, tt, refl)
text_is end (suc k) [] = tt
text_is end (suc k) (b ∷ bytes) =
    by_equal (TextIs end (suc k) (b ∷ bytes)) b end (Took [] bytes) (with_front b (read_text end k bytes)) (λ e. (ap (λ c. c ∷ bytes) e, tt, omega arith))
    (λ ne. front_is end k b bytes ne (read_text end k bytes) (text_is end k bytes))
