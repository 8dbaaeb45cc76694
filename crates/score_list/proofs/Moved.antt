-- The laws of one level's row.
use Rattle.std.proofs.Common.{◌≡◌, ◌≢◌, ℕ, suc, ◌+◌, ◌<◌, ◌≤◌, Bool, true, false, List, [], ◌∷◌, ◌++◌, length, refl, sym, ap, ◌∙◌, subst, append_assoc, arith, ◌⊎◌, inl, inr}
use Rattle.score_list.specs.Rows.{IsRow, Reaches, Stands, Lacks, AllTall}
use Rattle.score_list.specs.Rows.Stands.{at_head, at_tower}

pub decide : (b : Bool) → (b ≡ true) ⊎ (b ≡ false)
decide true = inl refl
decide false = inr refl

pub never : {A : Type 0} (b : Bool) → b ≡ true → b ≡ false → A
never b t f = cc

module _ (tall : ℕ → Bool) (next span : ℕ → ℕ) (tall' : ℕ → Bool) (next' span' : ℕ → ℕ) where
  -- the towers have the same links
  abbrev pub Same : List ℕ → Type 0
  Same [] = Unit {0}
  Same (k ∷ ks) = (tall' k ≡ tall k) × (next' (suc k) ≡ next (suc k)) × (span' (suc k) ≡ span (suc k)) × Same ks

  -- a row goes on from another owner that links to where the first one did
  pub moved : (o d o' d' : ℕ) (ks : List ℕ) → IsRow tall next span o d ks → next' o' ≡ next o → span' o' + d ≡ span o + d' → Same ks → IsRow tall' next' span' o' d' ks
  moved o d o' d' [] r n s same = (n ∙ r.0, omega arith)
  moved o d o' d' (k ∷ ks) (inl r) n s same = inl (same.0 ∙ r.0, n ∙ r.1, omega arith, moved (suc k) 0 (suc k) 0 ks r.3 same.1 (omega arith) same.3)
  moved o d o' d' (k ∷ ks) (inr r) n s same = inr (same.0 ∙ r.0, moved o (suc d) o' (suc d') ks r.1 n (omega arith) same.3)

module _ (tall : ℕ → Bool) where
  -- the last owner of a level is one of the elements, with so many behind it
  pub record Late (ks : List ℕ) (last left : ℕ) : Type 0 where
    pub before : List ℕ
    pub k : ℕ
    pub rest : List ℕ
    pub is : ks ≡ before ++ k ∷ rest
    pub reaches : tall k ≡ true
    pub last_is : last ≡ suc k
    pub left_is : left ≡ length rest

  later : (j : ℕ) (ks : List ℕ) (last left : ℕ) → Late ks last left → Late (j ∷ ks) last left
  later j ks last left l = record { before = j ∷ l.before; k = l.k; rest = l.rest; is = ap (λ xs. j ∷ xs) l.is; reaches = l.reaches; last_is = l.last_is; left_is = l.left_is }

  pub reached : (ks : List ℕ) (o d last left : ℕ) → Reaches tall ks o d last left → ((last ≡ o) × (left ≡ d + length ks)) ⊎ Late ks last left
  reached [] o d last left r = inl (r.0, omega arith)
  reached (k ∷ ks) o d last left (inl r) =
      elim (reached ks (suc k) 0 last left r.1) [
        | inl e ↦ inr (record { before = []; k = k; rest = ks; is = refl; reaches = r.0; last_is = e.0; left_is = omega arith })
        | inr l ↦ inr (later k ks last left l)
      ]
  reached (k ∷ ks) o d last left (inr r) =
      elim (reached ks o (suc d) last left r.1) [
        | inl e ↦ inl (e.0, omega arith)
        | inr l ↦ inr (later k ks last left l)
      ]

  -- an owner that isn't among the elements, nor the one before them, isn't reached
  pub reached_other : (p : ℕ) (front back : List ℕ) (o d last left : ℕ) → Reaches tall front o d last left → p ≢ o → Lacks p (front ++ back) → p ≢ last
  reached_other p [] back o d last left r ne lacks = λ e. ne (e ∙ r.0)
  reached_other p (k ∷ ks) back o d last left (inl r) ne lacks = reached_other p ks back (suc k) 0 last left r.1 lacks.0 lacks.1
  reached_other p (k ∷ ks) back o d last left (inr r) ne lacks = reached_other p ks back o (suc d) last left r.1 ne lacks.1

  pub reach_on : (f : List ℕ) (k : ℕ) (rest : List ℕ) (o d last left : ℕ) → tall k ≡ true → Reaches tall rest (suc k) 0 last left → Reaches tall (f ++ k ∷ rest) o d last left
  reach_on [] k rest o d last left t r = inl (t, r)
  reach_on (j ∷ f) k rest o d last left t r =
      elim (decide (tall j)) [
        | inl e ↦ inl (e, reach_on f k rest (suc j) 0 last left t r)
        | inr e ↦ inr (e, reach_on f k rest o (suc d) last left t r)
      ]

  pub stands_reach : (front : List ℕ) (o : ℕ) (rest : List ℕ) (last left : ℕ) → Stands tall front o rest → Reaches tall rest o 0 last left → Reaches tall front 0 0 last left
  stands_reach front o rest last left (at_head is_o is_rest) r = subst (λ xs. Reaches tall xs 0 0 last left) is_rest (subst (λ n. Reaches tall rest n 0 last left) is_o r)
  stands_reach front o rest last left (at_tower before k t is_o is) r =
      subst (λ xs. Reaches tall xs 0 0 last left) (sym is) (reach_on before k rest 0 0 last left t (subst (λ n. Reaches tall rest n 0 last left) is_o r))

  pub reach_stands : (front : List ℕ) (last left : ℕ) → Reaches tall front 0 0 last left → (rest : List ℕ) × Stands tall front last rest × (length rest ≡ left)
  reach_stands front last left r =
      elim (reached front 0 0 last left r) [
        | inl e ↦ (front, at_head e.0 refl, omega arith)
        | inr l ↦ (l.rest, at_tower l.before l.k l.reaches l.last_is l.is, sym l.left_is)
      ]

-- who stands on a level stands on each level below it
pub stands_below : (tall low : ℕ → Bool) → ((k : ℕ) → tall k ≡ true → low k ≡ true) → (front : List ℕ) (o : ℕ) (rest : List ℕ) → Stands tall front o rest → Stands low front o rest
stands_below tall low below front o rest (at_head is_o is_rest) = at_head is_o is_rest
stands_below tall low below front o rest (at_tower before k t is_o is) = at_tower before k (below k t) is_o is

module _ (tall : ℕ → Bool) (next span : ℕ → ℕ) where
  pub beyond : (o d : ℕ) (ks : List ℕ) → IsRow tall next span o d ks → d < span o
  beyond o d [] r = omega arith
  beyond o d (k ∷ ks) (inl r) = omega arith
  beyond o d (k ∷ ks) (inr r) = omega (arith, beyond o (suc d) ks r.1)

  -- no span goes past the end
  pub within : (o d : ℕ) (ks : List ℕ) → IsRow tall next span o d ks → span o ≤ suc (d + length ks)
  within o d [] r = omega arith
  within o d (k ∷ ks) (inl r) = omega arith
  within o d (k ∷ ks) (inr r) = omega (arith, within o (suc d) ks r.1)

  pub row_on : (f : List ℕ) (k : ℕ) (rest : List ℕ) (o d : ℕ) → tall k ≡ true → IsRow tall next span o d (f ++ k ∷ rest) → IsRow tall next span (suc k) 0 rest
  row_on [] k rest o d t (inl r) = r.3
  row_on [] k rest o d t (inr r) = never (tall k) t r.0
  row_on (j ∷ f) k rest o d t (inl r) = row_on f k rest (suc j) 0 t r.3
  row_on (j ∷ f) k rest o d t (inr r) = row_on f k rest o (suc d) t r.1

  -- the row behind an owner that stands in front
  pub stands_row : (front back : List ℕ) (o : ℕ) (rest : List ℕ) → Stands tall front o rest → IsRow tall next span 0 0 (front ++ back) → IsRow tall next span o 0 (rest ++ back)
  stands_row front back o rest (at_head is_o is_rest) r = subst (λ xs. IsRow tall next span o 0 (xs ++ back)) (sym is_rest) (subst (λ n. IsRow tall next span n 0 (front ++ back)) (sym is_o) r)
  stands_row front back o rest (at_tower before k t is_o is) r =
      let whole : front ++ back ≡ before ++ k ∷ (rest ++ back) = ap (λ xs. xs ++ back) is ∙ append_assoc before (k ∷ rest) back in
      subst (λ n. IsRow tall next span n 0 (rest ++ back)) (sym is_o) (row_on before k (rest ++ back) 0 0 t (subst (IsRow tall next span 0 0) whole r))

  -- the next owner stands in the rest too
  pub record Ahead (rest back : List ℕ) (o d : ℕ) : Type 0 where
    pub before : List ℕ
    pub k : ℕ
    pub behind : List ℕ
    pub is : rest ≡ before ++ k ∷ behind
    pub reaches : tall k ≡ true
    pub next_is : next o ≡ suc k
    pub span_is : span o + length behind ≡ d + length rest

  pub ahead : (rest back : List ℕ) (o d : ℕ) → IsRow tall next span o d (rest ++ back) → span o ≤ d + length rest → Ahead rest back o d
  ahead [] back o d r le = absurd (omega (arith, beyond o d back r))
  ahead (k ∷ ks) back o d (inl r) le = record { before = []; k = k; behind = ks; is = refl; reaches = r.0; next_is = r.1; span_is = omega arith }
  ahead (k ∷ ks) back o d (inr r) le =
      let a = ahead ks back o (suc d) r.1 (omega arith) in
      record { before = k ∷ a.before; k = a.k; behind = a.behind; is = ap (λ xs. k ∷ xs) a.is; reaches = a.reaches; next_is = a.next_is; span_is = omega (arith, a.span_is) }

  -- the next owner stands behind the rest
  pub stays : (rest back : List ℕ) (o d : ℕ) → IsRow tall next span o d (rest ++ back) → d + length rest < span o → Reaches tall rest o d o (d + length rest)
  stays [] back o d r lt = (refl, omega arith)
  stays (k ∷ ks) back o d (inl r) lt = absurd (omega arith)
  stays (k ∷ ks) back o d (inr r) lt = inr (r.0, subst (λ n. Reaches tall ks o (suc d) o n) (omega arith) (stays ks back o (suc d) r.1 (omega arith)))

  -- where all are of the level, the links go through the list
  pub all_next : (o : ℕ) (k : ℕ) (ks : List ℕ) → AllTall tall (k ∷ ks) → IsRow tall next span o 0 (k ∷ ks) → next o ≡ suc k
  all_next o k ks all (inl r) = r.1
  all_next o k ks all (inr r) = never (tall k) all.0 r.0
