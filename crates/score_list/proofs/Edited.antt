-- A tower joins or leaves a row.
use Rattle.std.proofs.Common.{◌≡◌, ◌≢◌, ℕ, suc, Bool, List, [], ◌∷◌, ◌++◌, refl, sym, ap, ◌∙◌, arith, inl, inr}
use Rattle.score_list.specs.Rows.{IsRow, Reaches, Lacks, IsDistinct, Hung, Unhung}
use Rattle.score_list.proofs.Moved.{decide, never, Same, moved, reached_other}

module _ (tall : ℕ → Bool) (next span next' span' : ℕ → ℕ) where
  same_behind : (x o left : ℕ) (ks : List ℕ) → ((p : ℕ) → p ≢ o → p ≢ suc x → (next' p ≡ next p) × (span' p ≡ span p)) → Lacks o ks → Lacks (suc x) ks → Same tall next span tall next' span' ks
  same_behind x o left [] others lo lx = tt
  same_behind x o left (k ∷ ks) others lo lx =
      let e = others (suc k) (λ q. lo.0 (sym q)) (λ q. lx.0 (sym q)) in
      (refl, e.0, e.1, same_behind x o left ks others lo.1 lx.1)

  pub joined : (x : ℕ) (front back : List ℕ) (o d last left : ℕ) → Hung tall x last left next span next' span' → IsRow tall next span o d (front ++ back) → Reaches tall front o d last left
      → suc x ≢ o → Lacks (suc x) (front ++ back) → Lacks o (front ++ back) → IsDistinct (front ++ back) → IsRow tall next' span' o d (front ++ x ∷ back)
  joined x [] back o d last left h row r new lx lo dist =
      let same = same_behind x o left back (λ p a b. h.others p (λ q. a (q ∙ r.0)) b) lo lx in
      elim (decide (tall x)) [
        | inl t ↦ (let e = h.joins t in
            inl (
              t,
              ap next' (sym r.0) ∙ e.0,
              ap span' (sym r.0) ∙ e.1 ∙ ap suc r.1,
              moved tall next span tall next' span' o d (suc x) 0 back row (e.2 ∙ ap next r.0)
                  (let a : span last ≡ span o = ap span r.0 in omega (arith, e.3)) same,
            ))
        | inr f ↦ (let e = h.low f in
            inr (
              f,
              moved tall next span tall next' span' o d o (suc d) back row (ap next' (sym r.0) ∙ e.0 ∙ ap next r.0)
                  (let a : span last ≡ span o = ap span r.0 in let b : span' last ≡ span' o = ap span' r.0 in omega (arith, e.1)) same,
            ))
      ]
  joined x (k ∷ ks) back o d last left h row (inl r) new lx lo dist =
      elim row [
        | inl w ↦ (let e = h.others o (reached_other tall o ks back (suc k) 0 last left r.1 lo.0 lo.1) (λ q. new (sym q)) in
            inl (w.0, e.0 ∙ w.1, e.1 ∙ w.2, joined x ks back (suc k) 0 last left h w.3 r.1 lx.0 lx.1 dist.0 dist.1))
        | inr w ↦ never (tall k) r.0 w.0
      ]
  joined x (k ∷ ks) back o d last left h row (inr r) new lx lo dist =
      elim row [
        | inl w ↦ never (tall k) w.0 r.0
        | inr w ↦ inr (w.0, joined x ks back o (suc d) last left h w.1 r.1 new lx.1 lo.1 dist.1)
      ]

  same_left : (o : ℕ) (ks : List ℕ) → ((p : ℕ) → p ≢ o → (next' p ≡ next p) × (span' p ≡ span p)) → Lacks o ks → Same tall next span tall next' span' ks
  same_left o [] others lo = tt
  same_left o (k ∷ ks) others lo =
      let e = others (suc k) (λ q. lo.0 (sym q)) in
      (refl, e.0, e.1, same_left o ks others lo.1)

  pub left : (x : ℕ) (front back : List ℕ) (o d last passed : ℕ) → Unhung tall x last passed next span next' span' → IsRow tall next span o d (front ++ x ∷ back)
      → Reaches tall front o d last passed → Lacks o (front ++ x ∷ back) → IsDistinct (front ++ x ∷ back) → IsRow tall next' span' o d (front ++ back)
  left x [] back o d last passed h row r lo dist =
      let same = same_left o back (λ p a. h.others p (λ q. a (q ∙ r.0))) lo.1 in
      elim row [
        | inl w ↦ (let e = h.leaves w.0 in
            moved tall next span tall next' span' (suc x) 0 o d back w.3 (ap next' (sym r.0) ∙ e.0) (let b : span' last ≡ span' o = ap span' r.0 in omega (arith, e.1, r.1)) same)
        | inr w ↦ (let e = h.low w.0 in
            moved tall next span tall next' span' o (suc d) o d back w.1 (ap next' (sym r.0) ∙ e.0 ∙ ap next r.0)
            (let a : span last ≡ span o = ap span r.0 in let b : span' last ≡ span' o = ap span' r.0 in omega (arith, e.1)) same)
      ]
  left x (k ∷ ks) back o d last passed h row (inl r) lo dist =
      elim row [
        | inl w ↦ (let e = h.others o (reached_other tall o ks (x ∷ back) (suc k) 0 last passed r.1 lo.0 lo.1) in
            inl (w.0, e.0 ∙ w.1, e.1 ∙ w.2, left x ks back (suc k) 0 last passed h w.3 r.1 dist.0 dist.1))
        | inr w ↦ never (tall k) r.0 w.0
      ]
  left x (k ∷ ks) back o d last passed h row (inr r) lo dist =
      elim row [
        | inl w ↦ never (tall k) w.0 r.0
        | inr w ↦ inr (w.0, left x ks back o (suc d) last passed h w.1 r.1 lo.1 dist.1)
      ]
