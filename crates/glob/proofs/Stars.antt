-- What a star takes.
use Rattle.std.proofs.Common.{◌≡◌, ℕ, zero, suc, ◌+◌, ◌<◌, ◌≤◌, List, [], ◌∷◌, ◌++◌, length, take, drop, get_or, refl, sym, ap, subst, ◌∙◌, arith, length-append}
use Rattle.glob.specs.Pattern.{Matches, empty, star, question, escaped, last_backslash, class, plain}
use Rattle.std.proofs.lemmas.List.{drop-drop, take-append-drop}
use Rattle.std.proofs.Math.Seq.{drop-append-add}

pub star_inv : (rest t : List ℕ) → Matches (42 ∷ rest) t → (k : ℕ) × (k ≤ length t) × Matches rest (drop k t)
star_inv rest _ (star _ taken left m) =
    let e : drop (length taken) (taken ++ left) ≡ left = ap (λ n. drop n (taken ++ left)) (omega arith) ∙ drop-append-add taken left 0 in
    (length taken, omega (arith, length-append taken left), subst (Matches rest) (sym e) m)
star_inv rest _ (plain _ left byte p m) = absurd (p.no_star refl)

pub star_from : (rest t : List ℕ) (k : ℕ) → Matches rest (drop k t) → Matches (42 ∷ rest) t
star_from rest t k m = subst (Matches (42 ∷ rest)) (take-append-drop k t) (star rest (take k t) (drop k t) m)

-- a star takes what stands before a text that it matches with the rest
pub star_absorbs : (rest t : List ℕ) (k : ℕ) → Matches (42 ∷ rest) (drop k t) → Matches (42 ∷ rest) t
star_absorbs rest t k m =
    let inv = star_inv rest (drop k t) m in
    star_from rest t (k + inv.0) (subst (Matches rest) (drop-drop inv.0 k t) inv.2)

-- a star takes no byte, or it takes one and is a star before the next
pub star_next : (rest t : List ℕ) → Matches (42 ∷ rest) t → ¬ (Matches rest t) → Matches (42 ∷ rest) (drop 1 t)
star_next rest t m none = go (star_inv rest t m)
  where
    go : ((k : ℕ) × (k ≤ length t) × Matches rest (drop k t)) → Matches (42 ∷ rest) (drop 1 t)
    go (zero, le, at) = absurd (none at)
    go (suc k, le, at) =
        let one : 1 + k ≡ suc k = omega arith in
        star_from rest (drop 1 t) k (subst (Matches rest) (sym (drop-drop k 1 t ∙ ap (λ n. drop n t) one)) at)

pub stars_match : (p : List ℕ) → ((k : ℕ) → k < length p → get_or p k 0 ≡ 42) → Matches p []
stars_match [] each = empty
stars_match (x ∷ xs) each =
    subst (λ b. Matches (b ∷ xs) []) (sym (each 0 (omega arith)))
    (star xs [] [] (stars_match xs (λ k h. each (suc k) (omega arith))))

-- what matches the empty text is stars alone
pub only_stars : (p t : List ℕ) → Matches p t → length t ≡ 0 → (k : ℕ) → k < length p → get_or p k 0 ≡ 42
only_stars _ _ empty none k h = absurd (omega arith)
only_stars _ _ (star p taken left m) none zero h = refl
only_stars _ _ (star p taken left m) none (suc k) h = only_stars p left m (omega (arith, length-append taken left)) k (omega arith)
only_stars _ _ (question p left byte m) none k h = absurd (omega arith)
only_stars _ _ (escaped p left byte m) none k h = absurd (omega arith)
only_stars _ _ last_backslash none k h = absurd (omega arith)
only_stars _ _ (class body left byte takes m) none k h = absurd (omega arith)
only_stars _ _ (plain p left byte is m) none k h = absurd (omega arith)
