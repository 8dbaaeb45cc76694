-- The next bucket that has an element.
use Rattle.std.proofs.Common.{◌≡◌, ◌≢◌, ◌⊎◌, inl, inr, ℕ, zero, suc, ◌+◌, ◌≤◌, ◌<◌, List, [], ◌∷◌, length, Some, None, refl, sym, ap, ◌∙◌, subst, arith}
use Rattle.std.proofs.lemmas.Bool.{cond-true, cond-false, eq-eqb, ne_eqb, cases_eq}
use Rattle.rehash_dict.specs.Tables.{bucket, full_within}
use Rattle.rehash_dict.proofs.Counts.{no_length}

module _ {X : Type 0} where
  full_here : (rows : List (List X)) (n at : ℕ) → (bucket rows at ≡ [] → ⊥) → full_within rows (suc n) at ≡ Some at
  unfolding full_within
  full_here rows n at full = cond-false _ _ _ (ne_eqb (length (bucket rows at)) 0 (λ h. full (no_length (bucket rows at) h)))

  full_past : (rows : List (List X)) (n at : ℕ) → bucket rows at ≡ [] → full_within rows (suc n) at ≡ full_within rows n (suc at)
  unfolding full_within
  full_past rows n at none = cond-true _ _ _ (eq-eqb (length (bucket rows at)) 0 (ap length none))

  pub full_found : (rows : List (List X)) (n position at : ℕ) → position ≤ at → at < position + n → ((k : ℕ) → position ≤ k → k < at → bucket rows k ≡ []) → (bucket rows at ≡ [] → ⊥)
      → full_within rows n position ≡ Some at
  full_found rows zero position at from to before full = absurd (omega arith)
  full_found rows (suc n) position at from to before full = elim (cases_eq position at) [
    | inl here ↦ subst (λ p. full_within rows (suc n) p ≡ Some at) (sym here) (full_here rows n at full)
    | inr later ↦ full_past rows n position (before position (omega arith) (omega arith)) ∙ full_found rows n (suc position) at (omega arith) (omega arith) (λ k a b. before k (omega arith) b) full
  ]

  pub full_none : (rows : List (List X)) (n position : ℕ) → ((k : ℕ) → position ≤ k → k < position + n → bucket rows k ≡ []) → full_within rows n position ≡ None
  unfolding full_within
  full_none rows zero position all = refl
  full_none rows (suc n) position all = full_past rows n position (all position (omega arith) (omega arith)) ∙ full_none rows n (suc position) (λ k a b. all k (omega arith) (omega arith))

  -- what the answer says
  pub record IsNextFull (rows : List (List X)) (position at n : ℕ) : Type 0 where
    pub from : position ≤ at
    pub to : at < position + n
    pub before : (k : ℕ) → position ≤ k → k < at → bucket rows k ≡ []
    pub full : bucket rows at ≡ [] → ⊥

  empty_or_not : (row : List X) → (row ≡ []) ⊎ (row ≡ [] → ⊥)
  empty_or_not [] = inl refl
  empty_or_not (x ∷ xs) = inr (λ h. cc)

  pub next_full : (rows : List (List X)) (n position at : ℕ) → full_within rows n position ≡ Some at → IsNextFull rows position at n
  unfolding full_within
  next_full rows zero position at h = cc
  next_full rows (suc n) position at h = elim (empty_or_not (bucket rows position)) [
    | inl none ↦
        (let r = next_full rows n (suc position) at (sym (full_past rows n position none) ∙ h) in
        record { from = omega (arith, r.from); to = omega (arith, r.to); before = λ k a b. below k (cases_eq k position) a b r none; full = r.full })
    | inr full ↦
        (let here : position ≡ at = (let q : Some position ≡ Some at = sym (full_here rows n position full) ∙ h in cc) in
        record { from = omega arith; to = omega arith; before = λ k a b. absurd (omega arith); full = λ e. full (ap (bucket rows) here ∙ e) })
  ]
    where
      below : (k : ℕ) → (k ≡ position) ⊎ (k ≢ position) → position ≤ k → k < at → IsNextFull rows (suc position) at n → bucket rows position ≡ [] → bucket rows k ≡ []
      below k (inl here) a b r none = ap (bucket rows) here ∙ none
      below k (inr other) a b r none = r.before k (omega arith) b

  pub none_full : (rows : List (List X)) (n position : ℕ) → full_within rows n position ≡ None → (k : ℕ) → position ≤ k → k < position + n → bucket rows k ≡ []
  none_full rows zero position h k a b = absurd (omega arith)
  none_full rows (suc n) position h k a b = elim (empty_or_not (bucket rows position)) [
    | inl none ↦ elim (cases_eq k position) [
      | inl here ↦ ap (bucket rows) here ∙ none
      | inr other ↦ none_full rows n (suc position) (sym (full_past rows n position none) ∙ h) k (omega arith) (omega arith)
    ]
    | inr full ↦ (let q : Some position ≡ None = sym (full_here rows n position full) ∙ h in cc)
  ]
