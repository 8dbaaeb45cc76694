-- The scores in the links of one level's row.
use Rattle.std.proofs.Common.{◌≡◌, ◌≢◌, ℕ, suc, ℤ, Bool, true, false, List, [], ◌∷◌, ◌++◌, take, drop, refl, sym, ap, ◌∙◌, subst, append_assoc, arith, inl, inr}
use Rattle.std.proofs.lemmas.List.{take-append-drop}
use Rattle.score_list.specs.Rows.{IsRow, Holds, Reaches, Stands, Lacks, IsDistinct, HungScore, UnhungScore}
use Rattle.score_list.specs.Rows.Stands.{at_head, at_tower}
use Rattle.score_list.proofs.Moved.{decide, never, reached_other}
use Rattle.score_list.proofs.Places.{row_at}

module _ (tall : ℕ → Bool) (held own : ℕ → ℤ) where
  -- the scores behind a tower of the level
  pub held_on : (f : List ℕ) (k : ℕ) (rest : List ℕ) (o : ℕ) → tall k ≡ true → Holds tall held own o (f ++ k ∷ rest) → Holds tall held own (suc k) rest
  held_on [] k rest o t (inl h) = h.2
  held_on [] k rest o t (inr h) = never (tall k) t h.0
  held_on (j ∷ f) k rest o t (inl h) = held_on f k rest (suc j) t h.2
  held_on (j ∷ f) k rest o t (inr h) = held_on f k rest o t h.1

  -- and behind an owner that stands in front
  stands_held : (front back : List ℕ) (o : ℕ) (rest : List ℕ) → Stands tall front o rest → Holds tall held own 0 (front ++ back) → Holds tall held own o (rest ++ back)
  stands_held front back o rest (at_head is_o is_rest) h = subst (λ xs. Holds tall held own o (xs ++ back)) (sym is_rest) (subst (λ n. Holds tall held own n (front ++ back)) (sym is_o) h)
  stands_held front back o rest (at_tower before k t is_o is) h =
      let whole : front ++ back ≡ before ++ k ∷ (rest ++ back) = ap (λ xs. xs ++ back) is ∙ append_assoc before (k ∷ rest) back in
      subst (λ n. Holds tall held own n (rest ++ back)) (sym is_o) (held_on before k (rest ++ back) 0 t (subst (Holds tall held own 0) whole h))

  -- the link of an owner holds the score of the tower that it leads to
  pub held_found : (next span : ℕ → ℕ) (o d : ℕ) (ks : List ℕ) → IsRow tall next span o d ks → Holds tall held own o ks → (k : ℕ) → next o ≡ suc k → held o ≡ own k
  held_found next span o d [] r h k e = absurd (omega arith)
  held_found next span o d (j ∷ ks) (inl r) (inl h) k e = (let same : j ≡ k = omega arith in h.1 ∙ ap own same)
  held_found next span o d (j ∷ ks) (inl r) (inr h) k e = never (tall j) r.0 h.0
  held_found next span o d (j ∷ ks) (inr r) (inl h) k e = never (tall j) h.0 r.0
  held_found next span o d (j ∷ ks) (inr r) (inr h) k e = held_found next span o (suc d) ks r.1 h.1 k e

  pub next_held : (next span : ℕ → ℕ) (ks : List ℕ) (rank o : ℕ) (rest : List ℕ) → Stands tall (take rank ks) o rest → IsRow tall next span 0 0 ks → Holds tall held own 0 ks → (k : ℕ)
      → next o ≡ suc k → held o ≡ own k
  next_held next span ks rank o rest s r h k e =
      held_found next span o 0 (rest ++ drop rank ks) (row_at tall next span ks rank o rest s r)
      (stands_held (take rank ks) (drop rank ks) o rest s (subst (Holds tall held own 0) (sym (take-append-drop rank ks)) h)) k e

module _ (tall : ℕ → Bool) (held own : ℕ → ℤ) (tall' : ℕ → Bool) (held' own' : ℕ → ℤ) where
  -- the towers have the same scores, and their links hold the same ones
  abbrev pub SameScores : List ℕ → Type 0
  SameScores [] = Unit {0}
  SameScores (k ∷ ks) = (tall' k ≡ tall k) × (held' (suc k) ≡ held (suc k)) × (own' k ≡ own k) × SameScores ks

  -- the scores behind another owner whose link holds what the first one's did
  pub still_held : (o o' : ℕ) (ks : List ℕ) → Holds tall held own o ks → held' o' ≡ held o → SameScores ks → Holds tall' held' own' o' ks
  still_held o o' [] h e same = tt
  still_held o o' (k ∷ ks) (inl h) e same = inl (same.0 ∙ h.0, e ∙ h.1 ∙ sym same.2, still_held (suc k) (suc k) ks h.2 same.1 same.3)
  still_held o o' (k ∷ ks) (inr h) e same = inr (same.0 ∙ h.0, still_held o o' ks h.1 e same.3)

module _ (tall : ℕ → Bool) (held own held' : ℕ → ℤ) where
  same_behind : (x o : ℕ) (ks : List ℕ) → ((p : ℕ) → p ≢ o → p ≢ suc x → held' p ≡ held p) → Lacks o ks → Lacks (suc x) ks → SameScores tall held own tall held' own ks
  same_behind x o [] others lo lx = tt
  same_behind x o (k ∷ ks) others lo lx = (refl, others (suc k) (λ q. lo.0 (sym q)) (λ q. lx.0 (sym q)), refl, same_behind x o ks others lo.1 lx.1)

  -- the scores of a row that a tower joined
  pub joined_held : (x : ℕ) (front back : List ℕ) (o d last left : ℕ) → HungScore tall x last (own x) held held' → Holds tall held own o (front ++ back) → Reaches tall front o d last left
      → suc x ≢ o → Lacks (suc x) (front ++ back) → Lacks o (front ++ back) → IsDistinct (front ++ back) → Holds tall held' own o (front ++ x ∷ back)
  joined_held x [] back o d last left h row r new lx lo dist =
      let same = same_behind x o back (λ p a b. h.others p (λ q. a (q ∙ r.0)) b) lo lx in
      elim (decide (tall x)) [
        | inl t ↦ (let e = h.joins t in
            inl (t, ap held' (sym r.0) ∙ e.0, still_held tall held own tall held' own o (suc x) back row (e.1 ∙ ap held r.0) same))
        | inr f ↦ inr (f, still_held tall held own tall held' own o o back row (ap held' (sym r.0) ∙ h.low f ∙ ap held r.0) same)
      ]
  joined_held x (k ∷ ks) back o d last left h row (inl r) new lx lo dist =
      elim row [
        | inl w ↦ (let e = h.others o (reached_other tall o ks back (suc k) 0 last left r.1 lo.0 lo.1) (λ q. new (sym q)) in
            inl (w.0, e ∙ w.1, joined_held x ks back (suc k) 0 last left h w.2 r.1 lx.0 lx.1 dist.0 dist.1))
        | inr w ↦ never (tall k) r.0 w.0
      ]
  joined_held x (k ∷ ks) back o d last left h row (inr r) new lx lo dist =
      elim row [
        | inl w ↦ never (tall k) w.0 r.0
        | inr w ↦ inr (w.0, joined_held x ks back o (suc d) last left h w.1 r.1 new lx.1 lo.1 dist.1)
      ]

  same_left : (o : ℕ) (ks : List ℕ) → ((p : ℕ) → p ≢ o → held' p ≡ held p) → Lacks o ks → SameScores tall held own tall held' own ks
  same_left o [] others lo = tt
  same_left o (k ∷ ks) others lo = (refl, others (suc k) (λ q. lo.0 (sym q)), refl, same_left o ks others lo.1)

  -- and of one that a tower left
  pub left_held : (x : ℕ) (front back : List ℕ) (o d last passed : ℕ) → UnhungScore tall x last held held' → Holds tall held own o (front ++ x ∷ back) → Reaches tall front o d last passed
      → Lacks o (front ++ x ∷ back) → IsDistinct (front ++ x ∷ back) → Holds tall held' own o (front ++ back)
  left_held x [] back o d last passed h row r lo dist =
      let same = same_left o back (λ p a. h.others p (λ q. a (q ∙ r.0))) lo.1 in
      elim row [
        | inl w ↦ still_held tall held own tall held' own (suc x) o back w.2 (ap held' (sym r.0) ∙ h.leaves w.0) same
        | inr w ↦ still_held tall held own tall held' own o o back w.1 (ap held' (sym r.0) ∙ h.low w.0 ∙ ap held r.0) same
      ]
  left_held x (k ∷ ks) back o d last passed h row (inl r) lo dist =
      elim row [
        | inl w ↦ (let e = h.others o (reached_other tall o ks (x ∷ back) (suc k) 0 last passed r.1 lo.0 lo.1) in
            inl (w.0, e ∙ w.1, left_held x ks back (suc k) 0 last passed h w.2 r.1 dist.0 dist.1))
        | inr w ↦ never (tall k) r.0 w.0
      ]
  left_held x (k ∷ ks) back o d last passed h row (inr r) lo dist =
      elim row [
        | inl w ↦ never (tall k) w.0 r.0
        | inr w ↦ inr (w.0, left_held x ks back o (suc d) last passed h w.1 r.1 lo.1 dist.1)
      ]

-- an owner that the list lacks is none of its towers
lacks_in : (p x : ℕ) (front back : List ℕ) → Lacks p (front ++ x ∷ back) → p ≢ suc x
lacks_in p x [] back l = l.0
lacks_in p x (k ∷ ks) back l = lacks_in p x ks back l.1

-- one tower has another score, and the link to it holds that
module _ (tall : ℕ → Bool) (held own held' own' : ℕ → ℤ) (x last : ℕ) (rest_own : (k : ℕ) → k ≢ x → own' k ≡ own k) (others : (p : ℕ) → p ≢ last → held' p ≡ held p)
    (now_held : tall x ≡ true → held' last ≡ own' x) (low : tall x ≡ false → held' last ≡ held last) where
  same_rescored : (ks : List ℕ) → Lacks last ks → Lacks (suc x) ks → SameScores tall held own tall held' own' ks
  same_rescored [] lo lx = tt
  same_rescored (k ∷ ks) lo lx = (refl, others (suc k) (λ q. lo.0 (sym q)), rest_own k (λ q. lx.0 (ap suc (sym q))), same_rescored ks lo.1 lx.1)

  pub rescored_held : (front back : List ℕ) (o d left : ℕ) → Holds tall held own o (front ++ x ∷ back) → Reaches tall front o d last left → Lacks o (front ++ x ∷ back) → IsDistinct (front ++ x ∷ back)
      → Holds tall held' own' o (front ++ x ∷ back)
  rescored_held [] back o d left row r lo dist =
      let same = same_rescored back (subst (λ n. Lacks n back) (sym r.0) lo.1) dist.0 in
      elim row [
        | inl w ↦ inl (
          w.0,
          ap held' (sym r.0) ∙ now_held w.0,
          still_held tall held own tall held' own' (suc x) (suc x) back w.2 (others (suc x) (λ q. lo.0 (sym (q ∙ r.0)))) same,
        )
        | inr w ↦ inr (w.0, still_held tall held own tall held' own' o o back w.1 (ap held' (sym r.0) ∙ low w.0 ∙ ap held r.0) same)
      ]
  rescored_held (k ∷ ks) back o d left row (inl r) lo dist =
      elim row [
        | inl w ↦ (let e = others o (reached_other tall o ks (x ∷ back) (suc k) 0 last left r.1 lo.0 lo.1) in
            inl (w.0, e ∙ w.1 ∙ sym (rest_own k (λ q. lacks_in (suc k) x ks back dist.0 (ap suc q))), rescored_held ks back (suc k) 0 left w.2 r.1 dist.0 dist.1))
        | inr w ↦ never (tall k) r.0 w.0
      ]
  rescored_held (k ∷ ks) back o d left row (inr r) lo dist =
      elim row [
        | inl w ↦ never (tall k) w.0 r.0
        | inr w ↦ inr (w.0, rescored_held ks back o (suc d) left w.1 r.1 lo.1 dist.1)
      ]
